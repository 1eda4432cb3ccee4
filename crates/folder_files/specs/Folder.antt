-- The files of a folder as a system gives them: which of them a crash leaves as they read, and how many syncs were finished.
use Rattle.std.specs.Prelude.{◌≡◌, ℕ, ◌<◌, ◌≤◌, List, length, take, Bool, true, false, slice_index_or}
use Rattle.process_flow.specs.Causes.{Rose}
use Rattle.process_disk.specs.Disk.{FileSet, Disk, Told, file_of}

-- a crash leaves file k as it reads
abbrev pub IsKept : ℕ → Disk → Type 0
IsKept k disk = (c : FileSet) → disk.may_leave c → file_of c k ≡ file_of disk.files k

-- of how many places syncs are counted: the nine files, and the folder behind them
abbrev pub folder_place : ℕ
folder_place = 9

-- how many syncs of a place were finished
abbrev pub syncs_of : List ℕ → ℕ → ℕ
syncs_of counts k = slice_index_or counts k 0

-- a sync of this place was finished, and of no place a count fell
pub record IsSynced (place : ℕ) (old new : List ℕ) : Type 0 where
  pub rose : Rose (syncs_of old place) (syncs_of new place)
  pub never_fell : (k : ℕ) → syncs_of old k ≤ syncs_of new k

-- a read of these bytes into a buffer gave some of them, from their front; none only where there are none or there was no room
pub record IsPart (there buf : List ℕ) (n : ℕ) : Type 0 where
  pub within : n ≤ length there
  pub bytes : take n buf ≡ take n there
  pub end : n ≡ 0 → 0 < length buf → length there ≡ 0

-- file k is marked as one that a crash may leave otherwise
abbrev pub IsMarked : List Bool → ℕ → Type 0
IsMarked marks k = slice_index_or marks k false ≡ true

-- it isn't
abbrev pub IsUnmarked : List Bool → ℕ → Type 0
IsUnmarked marks k = slice_index_or marks k false ≡ false

-- some file is
abbrev pub SomeMarked : List Bool → Type 0
SomeMarked marks = (k : ℕ) × IsMarked marks k

-- none is
abbrev pub NoneMarked : List Bool → Type 0
NoneMarked marks = (k : ℕ) → IsUnmarked marks k

-- each file that isn't marked is kept, where the files are told
abbrev pub AreKept : List Bool → Disk → Type 0
AreKept marks disk = Told disk → (k : ℕ) → k < 9 → IsUnmarked marks k → IsKept k disk
