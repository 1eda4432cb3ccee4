-- What several bodies at once make of a log: their records behind its closed gate, and then that gate opened.
use Rattle.std.specs.Prelude.{◌≡◌, ◌⊎◌, ℕ, ◌+◌, ◌<◌, List, [], ◌∷◌, ◌++◌, length, flat_map, Result, Ok, Err}
use Rattle.process_disk.specs.Disk.{FileSet, Disk, file_of, written}
use Rattle.process_disk.specs.Images.{EachImage}
use Rattle.gate_log.specs.LogFile.{IsLog, framed, bodies_in, records_size, end_of}
use Rattle.gate_log.specs.declared.errors.LogError.{LogError}
use Rattle.gate_log.specs.Standing.{LogState, Logs, StandsFor}

-- the records of these bodies as a log writes them, each behind a gate of 1, and a closed gate
abbrev pub plain_records : List (List ℕ) → List ℕ
plain_records bodies = flat_map (λ body. 1 ∷ framed body) bodies ++ 0 ∷ []

-- the bodies of such bytes
abbrev pub bodies_or_none : Result (List (List ℕ)) LogError → List (List ℕ)
bodies_or_none (Ok bodies) = bodies
bodies_or_none (Err e) = []

abbrev pub staged_in : List ℕ → List (List ℕ)
staged_in bytes = bodies_or_none (bodies_in (length bytes) 1 bytes)

-- the log with a body more staged
abbrev pub staging : LogState → List ℕ → LogState
staging log body = record {
  file = log.file;
  count = log.count;
  end = log.end;
  staged = log.staged ++ body ∷ [];
}

-- the log with more bodies staged
abbrev pub staging_all : LogState → List (List ℕ) → LogState
staging_all log bodies = record { file = log.file; count = log.count; end = log.end; staged = log.staged ++ bodies }

-- the log with nothing staged
abbrev pub unstaged : LogState → LogState
unstaged log = record { file = log.file; count = log.count; end = log.end; staged = [] }

-- the log with all that was staged in its list
abbrev pub with_staged : LogState → LogState
with_staged log = record {
  file = log.file;
  count = log.count + length log.staged;
  end = log.end + records_size log.staged;
  staged = [];
}

-- file q of the set is the log of the list before, or of the list with all of these bodies
abbrev pub LogsBeforeOrWithAll : ℕ → List (List ℕ) → List (List ℕ) → FileSet → Type 0
LogsBeforeOrWithAll q bodies more files = Logs q bodies files ⊎ Logs q (bodies ++ more) files

-- More bodies stand behind the closed gate of the log of these: it is the log of these, and with any other byte in that gate's
-- place it is the log of both.
pub record HasBehind (q : ℕ) (bodies more : List (List ℕ)) (file : List ℕ) : Type 0 where
  pub shut : IsLog q bodies file
  pub opens : (gate : ℕ) → 0 < gate → IsLog q (bodies ++ more) (written file (end_of bodies) (gate ∷ []))

-- What is staged is written behind the closed gate: a read gives it there, and the log still stands for its list.
pub record AreWritten (log : LogState) (bodies : List (List ℕ)) (disk : Disk) : Type 0 where
  pub stands : StandsFor log bodies disk
  pub read : HasBehind log.file bodies log.staged (file_of disk.files log.file)

-- It is on the disk there: each image from now on has it.
pub record AreOnDisk (log : LogState) (bodies : List (List ℕ)) (disk : Disk) : Type 0 where
  pub stands : StandsFor log bodies disk
  pub read : HasBehind log.file bodies log.staged (file_of disk.files log.file)
  pub each : EachImage disk disk.moment (λ files. HasBehind log.file bodies log.staged (file_of files log.file))

-- The gate before it is opened: a read gives the log of all, and each image from now on is the log before or with all.
pub record IsOpened (log : LogState) (bodies : List (List ℕ)) (disk : Disk) : Type 0 where
  pub before : (log.count ≡ length bodies) × (log.end ≡ end_of bodies)
  pub read : Logs log.file (bodies ++ log.staged) disk.files
  pub each : EachImage disk disk.moment (LogsBeforeOrWithAll log.file bodies log.staged)

-- what is staged is on the disk behind the gate of some list
pub record MayOpen (log : LogState) (disk : Disk) : Type 0 where
  pub bodies : List (List ℕ)
  pub there : AreOnDisk log bodies disk
