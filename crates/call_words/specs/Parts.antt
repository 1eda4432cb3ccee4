-- The parts of the words of a call.
use Rattle.std.specs.Prelude.{◌==◌, ◌-◌, ◌&&◌, Bool, true, false, List, [], ◌∷◌, Option, Some, None, codes, length, take, not, is_some, slice_index_or, if◌then◌else◌}
use Rattle.std.specs.Str.{bytes_eq}
use Rattle.clap.specs.Walk.{Text}
use Rattle.program_words.specs.Commands.{asked}
use Rattle.program_words.specs.declared.reading.Command.{Command}
use Rattle.program_words.specs.declared.reading.Command.TheVariants as command

-- the folder to work in and the file to read, where they are named, and the words of the command
pub record Parts : Type 0 where
  pub folder : Option Text
  pub file : Option Text
  pub words : List Text

-- the folder behind `-C` in front
abbrev pub folder_in : List Text → Option Text
folder_in (option ∷ folder ∷ rest) = if bytes_eq option (codes "-C") then Some folder else None
folder_in words = None

-- the words behind it, and all where there is none
abbrev pub behind_folder : List Text → List Text
behind_folder (option ∷ folder ∷ rest) = if bytes_eq option (codes "-C") then rest else option ∷ folder ∷ rest
behind_folder words = words

-- a command that reads standard input takes the name of a file in place of it
abbrev pub takes_file : Option Command → Bool
takes_file (Some command.Check) = true
takes_file (Some command.Expand) = true
takes_file (Some (command.Init values strict)) = true
takes_file (Some (command.Run workers)) = true
takes_file (Some command.Session) = true
takes_file (Some command.Serve) = true
takes_file (Some command.Verify) = true
takes_file (Some (command.Audit history)) = true
takes_file c = false

-- a word that begins with `-` is an option and no file
abbrev pub is_option : Text → Bool
is_option [] = false
is_option (first ∷ rest) = first == 45

-- the last word is a file, or not
abbrev pub parted_at : Option Text → List Text → Bool → List Text → Text → Parts
parted_at folder words true front last = record { folder = folder; file = Some last; words = front }
parted_at folder words false front last = record { folder = folder; file = None; words = words }

-- words that are a command have no file behind them
abbrev pub parted_unless : Option Text → List Text → Bool → List Text → Text → Parts
parted_unless folder words true front last = record { folder = folder; file = None; words = words }
parted_unless folder words false front last = parted_at folder words (takes_file (asked front) && not (is_option last)) front last

-- the folder and the words behind it; where these are no command, and those before the last are one that reads standard input, the
-- last is the file
abbrev pub parted_by : Option Text → List Text → Parts
parted_by folder words = parted_unless folder words (is_some (asked words)) (take (length words - 1) words) (slice_index_or words (length words - 1) [])

-- the parts of the words of a call
abbrev pub parted : List Text → Parts
parted words = parted_by (folder_in words) (behind_folder words)
