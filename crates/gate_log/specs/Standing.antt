-- What an open log stands for, on a disk that tells.
use Rattle.std.specs.Prelude.{◌≡◌, ◌≢◌, ◌⊎◌, ⊤, ℕ, ◌+◌, ◌-◌, ◌*◌, ◌≤◌, List, [], ◌∷◌, ◌++◌, length, Result, Ok, Err, Vec}
use Rattle.std.specs.declared.alloc.Global.{Global}
use Rattle.process_disk.specs.Disk.{FileSet, Disk, file_of}
use Rattle.process_disk.specs.Images.{EachImage}
use Rattle.gate_log.specs.LogFile.{IsLog, end_of, records_size}
use Rattle.gate_log.specs.declared.errors.LogError.{LogError}
use Rattle.gate_log.specs.declared.errors.LogError.TheVariants.{DiskFault, BadHeader, BadRecord, NoMemory}

-- What a log is seen as: its file, how many records it has, where its closed gate stands, and the bodies that are staged.
pub record LogState : Type 0 where
  pub file : ℕ
  pub count : ℕ
  pub end : ℕ
  pub staged : List (List ℕ)

-- So many of a log's last records, of so many bytes together, can be retracted: it has them, and the others fit their bytes.
pub record CanRetract (number size : ℕ) (log : LogState) : Type 0 where
  pub some : 1 ≤ number
  pub there : number ≤ log.count
  pub within : 8 + size ≤ log.end
  pub others : log.end ≤ 8 + 65538 * (log.count - number) + size

-- any of the last of these records can be
abbrev pub CanRetractLast : List (List ℕ) → LogState → Type 0
CanRetractLast bodies log = (before last : List (List ℕ)) → bodies ≡ before ++ last → last ≢ []
    → CanRetract (length last) (records_size last) log

-- the log without them
abbrev pub without : ℕ → ℕ → LogState → LogState
without number size log = record { file = log.file; count = log.count - number; end = log.end - size; staged = [] }

-- file q of the set is the log of this list
abbrev pub Logs : ℕ → List (List ℕ) → FileSet → Type 0
Logs q bodies files = IsLog q bodies (file_of files q)

-- file q of the set is the log of the list before, or of the list with the body
abbrev pub LogsBeforeOrWith : ℕ → List (List ℕ) → List ℕ → FileSet → Type 0
LogsBeforeOrWith q bodies body files = Logs q bodies files ⊎ Logs q (bodies ++ body ∷ []) files

-- The log stands for this list: its file is the log of it, and so is each image of that file from now on.
pub record StandsFor (log : LogState) (bodies : List (List ℕ)) (disk : Disk) : Type 0 where
  pub count : log.count ≡ length bodies
  pub end : log.end ≡ end_of bodies
  pub read : Logs log.file bodies disk.files
  pub each : EachImage disk disk.moment (Logs log.file bodies)

-- it stands for some list
pub record IsOpen (log : LogState) (disk : Disk) : Type 0 where
  pub bodies : List (List ℕ)
  pub stands : StandsFor log bodies disk

-- It stands for a list whose last records are so many, of so many bytes.
pub record EndsIn (number size : ℕ) (log : LogState) (disk : Disk) : Type 0 where
  pub bodies : List (List ℕ)
  pub last : List (List ℕ)
  pub stands : StandsFor log (bodies ++ last) disk
  pub number_is : length last ≡ number
  pub size_is : records_size last ≡ size

-- A log as it is made or opened: that of file q, with these bodies, any last ones of which can be retracted, and nothing staged.
pub record IsFreshLog (q : ℕ) (bodies : List (List ℕ)) (log : LogState) : Type 0 where
  pub file : log.file ≡ q
  pub count : log.count ≡ length bodies
  pub few : length bodies ≤ 65536
  pub last : CanRetractLast bodies log
  pub unstaged : log.staged ≡ []

-- It has one record more, and nothing is staged.
pub record HasOneMore (old new : LogState) : Type 0 where
  pub file : new.file ≡ old.file
  pub count : new.count ≡ old.count + 1
  pub unstaged : new.staged ≡ []

-- Why a file isn't made what it was to be: no memory was found, and then nothing was written, or a call of the rack failed.
pub record IsUnmade {E : Type 0} (memory fault why : E) (Unwritten : Type 0) : Type 0 where
  pub unwritten : why ≡ memory → Unwritten
  pub refused : why ≢ memory → why ≡ fault

-- What `open` answers on what a file reads as; want of memory and faults of the rack are free here.
abbrev pub OpensAs : Result (List (List ℕ)) LogError → Result (LogState × Vec (List ℕ) Global) LogError → Type 0
OpensAs found (Ok opened) = found ≡ Ok opened.1.items
OpensAs found (Err DiskFault) = ⊤
OpensAs found (Err BadHeader) = found ≡ Err BadHeader
OpensAs found (Err (BadRecord n)) = found ≡ Err (BadRecord n)
OpensAs found (Err NoMemory) = ⊤
