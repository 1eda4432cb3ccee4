-- The names of the commands.
use Rattle.std.specs.Prelude.{Option, Some, None, codes, if◌then◌else◌}
use Rattle.std.specs.Str.{bytes_eq}
use Rattle.clap.specs.Walk.{Text}
use Rattle.program_words.specs.declared.names.CommandName.{CommandName}
use Rattle.program_words.specs.declared.names.CommandName.TheVariants as name

-- the command that a word names
abbrev pub named : Text → Option CommandName
named word = if bytes_eq word (codes "check") then Some name.Check
    else (if bytes_eq word (codes "expand") then Some name.Expand
    else (if bytes_eq word (codes "init") then Some name.Init
    else (if bytes_eq word (codes "run") then Some name.Run
    else (if bytes_eq word (codes "session") then Some name.Session
    else (if bytes_eq word (codes "serve") then Some name.Serve
    else (if bytes_eq word (codes "restart") then Some name.Restart
    else (if bytes_eq word (codes "show") then Some name.Show
    else (if bytes_eq word (codes "replay") then Some name.Replay
    else (if bytes_eq word (codes "verify") then Some name.Verify
    else (if bytes_eq word (codes "audit") then Some name.Audit
    else (if bytes_eq word (codes "gen") then Some name.Gen
    else (if bytes_eq word (codes "bulk") then Some name.Bulk
    else (if bytes_eq word (codes "help") then Some name.Help
    else (if bytes_eq word (codes "version") then Some name.Version
    else None))))))))))))))

-- the name of a command, as it is written
abbrev pub name_text : CommandName → Text
name_text name.Check = codes "check"
name_text name.Expand = codes "expand"
name_text name.Init = codes "init"
name_text name.Run = codes "run"
name_text name.Session = codes "session"
name_text name.Serve = codes "serve"
name_text name.Restart = codes "restart"
name_text name.Show = codes "show"
name_text name.Replay = codes "replay"
name_text name.Verify = codes "verify"
name_text name.Audit = codes "audit"
name_text name.Gen = codes "gen"
name_text name.Bulk = codes "bulk"
name_text name.Help = codes "help"
name_text name.Version = codes "version"
