-- What a stop within a call leaves of a rack in memory.
use Rattle.std.specs.Prelude.{ℕ, ◌+◌, ◌-◌, List, [], ◌∷◌, ◌++◌, length, take, replicate, Bool, true, false, ◌&&◌, ◌||◌, nat_lt}
use Rattle.std.specs.Prelude.{nat_le, ◌==◌, if◌then◌else◌}
use Rattle.process_disk.specs.Disk.{FileSet, put}
use Rattle.process_disk.specs.Memory.{files_after}
use Rattle.process_disk.specs.declared.changes.Change.{Change}
use Rattle.process_disk.specs.declared.changes.Change.TheVariants.{Written, Synced}
use Rattle.process_disk.specs.declared.changes.Recorded.{Recorded}

-- the changes up to the newest that passes the test
abbrev pub from_latest : (Recorded → Bool) → List Recorded → List Recorded
from_latest test [] = []
from_latest test (m ∷ older) = if test m then m ∷ older else from_latest test older

abbrev pub is_write : Change → Bool
is_write (Written w) = true
is_write Synced = false

-- it was made before this call
abbrev pub is_before : ℕ → Recorded → Bool
is_before call m = nat_lt m.number call

-- it was made before this call or by it
abbrev pub is_through : ℕ → Recorded → Bool
is_through call m = nat_le m.number call

-- it was made before this call, or is the write that the call began
abbrev pub is_within : ℕ → Recorded → Bool
is_within call m = is_before call m || ((m.number == call) && is_write m.change)

-- the first k bytes, and fill in place of the rest
abbrev pub kept : ℕ → ℕ → List ℕ → List ℕ
kept k fill bytes = take k bytes ++ replicate (length bytes - k) fill

-- how many bytes were written since the last finished sync, with one change more
abbrev pub unsynced_with : Change → ℕ → ℕ
unsynced_with (Written w) count = count + length w.bytes
unsynced_with Synced count = 0

-- how many bytes were written since the last finished sync
abbrev pub unsynced : List Recorded → ℕ
unsynced [] = 0
unsynced (m ∷ older) = unsynced_with m.change (unsynced older)

-- what is left with one change more, of files that read so, of which that is left, and of which so many bytes may still be kept
abbrev pub left_with : ℕ → ℕ → Change → FileSet → FileSet → FileSet
left_with k fill (Written w) files left = put left w.file w.at (kept k fill w.bytes)
left_with k fill Synced files left = files

-- the files as the last finished sync left them, with the ranges written since: what was written in their first `keep` bytes,
-- counted in the order of the writes, and fill in the rest
abbrev pub left_by : ℕ → ℕ → FileSet → List Recorded → FileSet
left_by keep fill first [] = first
left_by keep fill first (m ∷ older) =
    left_with (keep - unsynced older) fill m.change (files_after first older) (left_by keep fill first older)
