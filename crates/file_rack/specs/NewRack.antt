-- A rack that was just made.
use Rattle.std.specs.Prelude.{◌≡◌, ◌<◌, ℕ, List, Bool, false}
use Rattle.folder_files.specs.Folder.{IsMarked}

-- what a new rack has: each file counts as unsynced, no sync has failed, and there is no fault
pub record IsNew (marks : List Bool) (broken : Bool) (count : ℕ) : Type 0 where
  pub unsynced : (k : ℕ) → k < 9 → IsMarked marks k
  pub whole : broken ≡ false
  pub faults : count ≡ 0
