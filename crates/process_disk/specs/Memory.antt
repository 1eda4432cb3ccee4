-- A rack in memory: what it holds, what its calls mean, and what a stop leaves of it. Lists of changes have the newest first.
use Rattle.std.specs.Prelude.{◌≡◌, ◌⊎◌, ℕ, ◌+◌, ◌-◌, ◌^◌, ◌≤◌, min, List, [], ◌∷◌, length, drop, reverse, Bool, IsTrue, true, ◌&&◌}
use Rattle.std.specs.Prelude.{nat_lt, nat_le, Result, IsErr, OnOk, OnErr, Contains}
use Rattle.process_flow.specs.Causes.{Rose, CountsFaults}
use Rattle.process_disk.specs.Disk.{FileSet, Disk, file_of, put, TornIn}
use Rattle.process_disk.specs.Calls.{OnlyLooks}
use Rattle.process_disk.specs.declared.changes.Change.{Change}
use Rattle.process_disk.specs.declared.changes.Change.TheVariants.{Written, Synced}
use Rattle.process_disk.specs.declared.changes.Recorded.{Recorded}

-- nine empty files
abbrev pub nine_empty : FileSet
nine_empty = [] ∷ [] ∷ [] ∷ [] ∷ [] ∷ [] ∷ [] ∷ [] ∷ [] ∷ []

-- what a read gives after one change more
abbrev pub with_change : Change → FileSet → FileSet
with_change (Written w) files = put files w.file w.at w.bytes
with_change Synced files = files

-- what a read gives after these changes
abbrev pub files_after : FileSet → List Recorded → FileSet
files_after first [] = first
files_after first (m ∷ older) = with_change m.change (files_after first older)

-- what a crash may leave after one change more, of files that read so and of which a crash might leave that
abbrev pub IsLeftAfter : Change → FileSet → (FileSet → Type 0) → FileSet → Type 0
IsLeftAfter (Written w) files before c = (d : FileSet) × before d × TornIn w.file w.at (length w.bytes) d c
IsLeftAfter Synced files before c = c ≡ files

-- what a crash after these changes may leave
abbrev pub IsImage : FileSet → List Recorded → FileSet → Type 0
IsImage first [] c = c ≡ first
IsImage first (m ∷ older) c = IsLeftAfter m.change (files_after first older) (IsImage first older) c

-- what a crash may have left at some moment from the one after the first t of these changes on
abbrev pub LeftSince : FileSet → List Recorded → ℕ → FileSet → Type 0
LeftSince first made t c = (k : ℕ) × (k + t ≤ length made) × IsImage first (drop k made) c

-- a write is into one of the nine files, from its end at most
abbrev pub is_placed : Change → FileSet → Bool
is_placed (Written w) files = nat_lt w.file 9 && nat_le w.at (length (file_of files w.file))
is_placed Synced files = true

-- each write was so when it was made
abbrev pub are_placed : FileSet → List Recorded → Bool
are_placed first [] = true
are_placed first (m ∷ older) = is_placed m.change (files_after first older) && are_placed first older

-- nine files at first, changes that had their place, the newest last, and the files that they made
pub record IsSound (first : FileSet) (made : List Recorded) (files : FileSet) : Type 0 where
  pub nine : length first ≡ 9
  pub placed : IsTrue (are_placed first (reverse made))
  pub now : files ≡ files_after first (reverse made)

-- What a rack in memory holds: the files at first, the writes and the finished syncs since, the calls that are to fail, and how
-- many calls were made, failed and wanted memory.
pub record MemoryDisk : Type 0 where
  pub first : FileSet
  pub made : List Recorded
  pub fails : List ℕ
  pub calls : ℕ
  pub faults : ℕ
  pub starved : ℕ

-- the write that the call of this number made
abbrev pub writing : ℕ → ℕ → ℕ → List ℕ → Recorded
writing number file at bytes = record { number = number; change = Written (record { file = file; at = at; bytes = bytes }) }

-- the sync that the call of this number finished
abbrev pub syncing : ℕ → Recorded
syncing number = record { number = number; change = Synced }

-- a write is kept; or memory was wanting, and it did nothing
abbrev pub KeepsWrite : {T E : Type 0} → ℕ → ℕ → List ℕ → MemoryDisk → MemoryDisk → Result T E → Type 0
KeepsWrite file at bytes old new result =
    (new.made ≡ writing old.calls file at bytes ∷ old.made) ⊎ (IsErr result × Rose old.starved new.starved × (new.made ≡ old.made))

-- a rack that nobody has called yet
abbrev pub fresh : FileSet → List ℕ → MemoryDisk
fresh first fails = record { first = first; made = []; fails = fails; calls = 0; faults = 0; starved = 0 }

-- all that it tells
abbrev pub disk_of : MemoryDisk → Disk
disk_of m = record {
  tells = true;
  files = files_after m.first m.made;
  may_leave = IsImage m.first m.made;
  moment = length m.made;
  left_since = LeftSince m.first m.made;
}

-- One call of it: it fails exactly where its number is listed or memory was wanting, and then the count of faults is one more, up
-- to its last value.
pub record IsCall {T E : Type 0} (old new : MemoryDisk) (result : Result T E) : Type 0 where
  pub listed : Contains old.fails old.calls → IsErr result
  pub failed : IsErr result → Contains old.fails old.calls ⊎ Rose old.starved new.starved
  pub quiet : OnOk result (new.faults ≡ old.faults)
  pub by_one : OnErr result (new.faults ≡ min (old.faults + 1) (2 ^ 64 - 1))
  pub starved : OnOk result (new.starved ≡ old.starved)
  pub never_falls : old.starved ≤ new.starved
  pub list : new.fails ≡ old.fails
  pub counted : new.calls ≡ min (old.calls + 1) (2 ^ 64 - 1)
  pub first : new.first ≡ old.first

-- A call of it that only looks: it makes no change.
pub record IsLook {T E : Type 0} (old new : MemoryDisk) (result : Result T E) : Type 0 where
  pub looks : OnlyLooks (disk_of old) (disk_of new)
  pub faults : CountsFaults old.faults new.faults result
  pub call : IsCall old new result
  pub made : new.made ≡ old.made

-- the same files, made by the same changes, and the same list
pub record SameFiles (old new : MemoryDisk) : Type 0 where
  pub first : new.first ≡ old.first
  pub made : new.made ≡ old.made
  pub fails : new.fails ≡ old.fails

-- the same but for the changes
pub record SameCounts (old new : MemoryDisk) : Type 0 where
  pub first : new.first ≡ old.first
  pub fails : new.fails ≡ old.fails
  pub calls : new.calls ≡ old.calls
  pub faults : new.faults ≡ old.faults
  pub starved : new.starved ≡ old.starved

-- one fault more is counted, up to the last value, and the files and the calls stay
pub record IsFault (old new : MemoryDisk) : Type 0 where
  pub same : SameFiles old new
  pub calls : new.calls ≡ old.calls
  pub rose : Rose old.faults new.faults
  pub by_one : new.faults ≡ min (old.faults + 1) (2 ^ 64 - 1)
  pub later : old.faults ≤ new.faults
