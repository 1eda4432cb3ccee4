-- The command that words ask for.
use Rattle.std.specs.Prelude.{◌||◌, List, [], ◌∷◌, Option, Some, None, option_map, codes, if◌then◌else◌}
use Rattle.std.specs.Str.{bytes_eq}
use Rattle.clap.specs.Walk.{Text}
use Rattle.program_words.specs.Apps.{plain_app}
use Rattle.program_words.specs.Asked.{flag_asked, flags_asked, nothing_asked, numbers_asked, workers_asked}
use Rattle.program_words.specs.Names.{named}
use Rattle.program_words.specs.declared.names.CommandName.{CommandName}
use Rattle.program_words.specs.declared.names.CommandName.TheVariants as name
use Rattle.program_words.specs.declared.reading.Command.{Command}
use Rattle.program_words.specs.declared.reading.Command.TheVariants as command

-- a command without arguments, where `clap` takes the words after its name
abbrev pub plain_asked : Text → Command → List Text → Option Command
plain_asked word found rest = option_map (λ _. found) (nothing_asked (plain_app word) rest)

-- help on all commands, or on the one that a single word names
abbrev pub help_asked : List Text → Option Command
help_asked [] = Some (command.Help None)
help_asked (word ∷ []) = option_map (λ about. command.Help (Some about)) (named word)
help_asked (word ∷ other ∷ rest) = None

-- what the words after a command's name ask for, or nothing where `clap` refuses them
abbrev pub asked_after : CommandName → List Text → Option Command
asked_after name.Check rest = plain_asked (codes "check") command.Check rest
asked_after name.Expand rest = plain_asked (codes "expand") command.Expand rest
asked_after name.Init rest =
    option_map (λ (values, strict). command.Init values strict) (flags_asked (codes "init") (codes "values") (codes "strict") rest)
asked_after name.Run rest = option_map (λ workers. command.Run workers) (workers_asked (codes "run") rest)
asked_after name.Session rest = plain_asked (codes "session") command.Session rest
asked_after name.Serve rest = plain_asked (codes "serve") command.Serve rest
asked_after name.Restart rest = plain_asked (codes "restart") command.Restart rest
asked_after name.Show rest = plain_asked (codes "show") command.Show rest
asked_after name.Replay rest = plain_asked (codes "replay") command.Replay rest
asked_after name.Audit rest = option_map (λ history. command.Audit history) (flag_asked (codes "audit") (codes "history") rest)
asked_after name.Verify rest = plain_asked (codes "verify") command.Verify rest
asked_after name.Gen rest = option_map (λ (number, count). command.Gen number count) (numbers_asked (codes "gen") rest)
asked_after name.Bulk rest = option_map (λ (number, count). command.Bulk number count) (numbers_asked (codes "bulk") rest)
asked_after name.Help rest = help_asked rest
asked_after name.Version rest = plain_asked (codes "version") command.Version rest

-- what a word that names no command asks for, where it stands alone: `--help` and `-h` help, and `--version` the version
abbrev pub option_asked : Text → List Text → Option Command
option_asked word [] = if bytes_eq word (codes "--help") || bytes_eq word (codes "-h") then Some (command.Help None)
    else (if bytes_eq word (codes "--version") then Some command.Version else None)
option_asked word (other ∷ rest) = None

-- by what the first word names
abbrev pub asked_by : Option CommandName → Text → List Text → Option Command
asked_by (Some name) word rest = asked_after name rest
asked_by None word rest = option_asked word rest

-- what words ask for, or nothing where the first neither names a command nor is an option that stands alone, or where the others are
-- refused: by `clap`, or behind `help` if they aren't the name of one command
abbrev pub asked : List Text → Option Command
asked [] = None
asked (word ∷ rest) = asked_by (named word) word rest
