-- Each page begins with the command that it is about, which holds by computing.
use Rattle.std.specs.Prelude.{◌≡◌, ◌++◌, length, take, codes, Some, refl}
use Rattle.program_words.specs.Names.{name_text}
use Rattle.program_words.specs.declared.names.CommandName.{CommandName}
use Rattle.program_words.specs.declared.names.CommandName.TheVariants as name
use Rattle.command_help.specs.Pages.{page_of}

-- a page begins with how its command is called
abbrev pub BeginsWithUsage : CommandName → Type 0
BeginsWithUsage n =
    take (length (codes "usage: tps " ++ name_text n)) (page_of (Some n)) ≡ codes "usage: tps " ++ name_text n

pub each_page_is_of_its_command : (n : CommandName) → BeginsWithUsage n
each_page_is_of_its_command name.Check = refl
each_page_is_of_its_command name.Expand = refl
each_page_is_of_its_command name.Init = refl
each_page_is_of_its_command name.Run = refl
each_page_is_of_its_command name.Session = refl
each_page_is_of_its_command name.Serve = refl
each_page_is_of_its_command name.Restart = refl
each_page_is_of_its_command name.Show = refl
each_page_is_of_its_command name.Replay = refl
each_page_is_of_its_command name.Verify = refl
each_page_is_of_its_command name.Audit = refl
each_page_is_of_its_command name.Gen = refl
each_page_is_of_its_command name.Bulk = refl
each_page_is_of_its_command name.Help = refl
each_page_is_of_its_command name.Version = refl
