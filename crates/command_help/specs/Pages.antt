-- The pages of help.
use Rattle.std.specs.Prelude.{ℕ, List, Option, Some, None, codes}
use Rattle.program_words.specs.declared.names.CommandName.{CommandName}
use Rattle.program_words.specs.declared.names.CommandName.TheVariants as name
use Rattle.command_help.specs.declared.pages.TheConstants.{COMMANDS, CHECK, EXPAND, INIT, RUN, SESSION, SERVE, RESTART, SHOW, REPLAY}
use Rattle.command_help.specs.declared.pages.TheConstants.{VERIFY, AUDIT, GEN, BULK, HELP, VERSION}

-- the page on a command, or on all
abbrev pub page_of : Option CommandName → List ℕ
page_of None = COMMANDS.now
page_of (Some name.Check) = CHECK.now
page_of (Some name.Expand) = EXPAND.now
page_of (Some name.Init) = INIT.now
page_of (Some name.Run) = RUN.now
page_of (Some name.Session) = SESSION.now
page_of (Some name.Serve) = SERVE.now
page_of (Some name.Restart) = RESTART.now
page_of (Some name.Show) = SHOW.now
page_of (Some name.Replay) = REPLAY.now
page_of (Some name.Verify) = VERIFY.now
page_of (Some name.Audit) = AUDIT.now
page_of (Some name.Gen) = GEN.now
page_of (Some name.Bulk) = BULK.now
page_of (Some name.Help) = HELP.now
page_of (Some name.Version) = VERSION.now

-- the name and the version of the program
abbrev pub version_line : List ℕ
version_line = codes "tps 1.0.0\n"
