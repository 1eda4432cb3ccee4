-- Parts as they are lent, and those of words that name neither a folder nor a file.
use Rattle.std.specs.Prelude.{◌≡◌, List, Some, None, map, string_bytes}
use Rattle.std.specs.Option.{option_map}
use Rattle.clap.specs.Walk.{Text}
use Rattle.program_words.specs.Commands.{asked}
use Rattle.program_words.specs.declared.reading.Command.{Command}
use Rattle.call_words.specs.Parts.{Parts}
use Rattle.call_words.specs.declared.parting.CallParts.{CallParts}

-- parts, seen as texts
abbrev pub parts_of : CallParts → Parts
parts_of p = record {
  folder = option_map (λ f. f.now) p.folder;
  file = option_map (λ f. f.now) p.file;
  words = map string_bytes p.words.now;
}

-- words that are a command by themselves are all the command's
abbrev pub IsWhole : List Text → Parts → Type 0
IsWhole words parts = (command : Command) → asked words ≡ Some command → parts ≡ record { folder = None; file = None; words = words }
