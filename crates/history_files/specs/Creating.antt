-- Which files may be made.
use Rattle.std.specs.Prelude.{◌≡◌, ◌⊎◌, ⊤, ℕ, zero, suc, ◌+◌, Bool, true, false, List, [], ◌∷◌, Option, Some, None, if◌then◌else◌}
use Rattle.process_disk.specs.Disk.{Disk, FileSet, file_of}
use Rattle.process_disk.specs.Images.{AllAsBefore}
use Rattle.history_files.specs.declared.faults.CreateError.{CreateError}
use Rattle.history_files.specs.declared.faults.CreateError.TheVariants.{DiskFault, NotEmpty, NoMemory}

-- a file has a byte
abbrev pub has_byte : List ℕ → Bool
has_byte [] = false
has_byte (b ∷ file) = true

-- the first of n files, from file q on, that has a byte
abbrev pub first_used_from : ℕ → ℕ → FileSet → Option ℕ
first_used_from zero q files = None
first_used_from (suc n) q files = if has_byte (file_of files q) then Some q else first_used_from n (q + 1) files

-- the first of the nine
abbrev pub first_used : FileSet → Option ℕ
first_used files = first_used_from 9 0 files

-- a refusal is due where this is the first file that has a byte; want of memory and faults of the rack are free here
abbrev pub IsDueToFiles : Option ℕ → CreateError → Type 0
IsDueToFiles found DiskFault = ⊤
IsDueToFiles found (NotEmpty q) = found ≡ Some q
IsDueToFiles found NoMemory = ⊤

-- all nine files are as before, or none of them had a byte
abbrev pub UsedFilesStay : Disk → Disk → Type 0
UsedFilesStay old new = AllAsBefore old new ⊎ (first_used old.files ≡ None)

-- What is left of files that were not made: one that has a byte is found before anything is written.
abbrev pub AreLeftUnmade : CreateError → Disk → Disk → Type 0
AreLeftUnmade DiskFault old new = UsedFilesStay old new
AreLeftUnmade (NotEmpty q) old new = AllAsBefore old new
AreLeftUnmade NoMemory old new = UsedFilesStay old new
