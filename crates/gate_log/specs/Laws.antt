-- What is proved of the words for logs.
use Rattle.std.specs.Prelude.{◌≡◌, ◌↔◌, ℕ, List, Ok}
use Rattle.gate_log.specs.LogFile.{IsLog, read_log}

-- a file is the log of a list exactly where that list is read from it
abbrev pub LogsAreRead : Type 0
LogsAreRead = (q : ℕ) (bodies : List (List ℕ)) (file : List ℕ) → IsLog q bodies file ↔ (read_log q file ≡ Ok bodies)

-- a file is the log of one list at most
abbrev pub OneListAtMost : Type 0
OneListAtMost = (q : ℕ) (one two : List (List ℕ)) (file : List ℕ) → IsLog q one file → IsLog q two file → one ≡ two
