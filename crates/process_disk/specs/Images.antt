-- The words in which the layers above speak of crashes over a run of calls. `proofs/Images` has the laws that make them compose.
use Rattle.std.specs.Prelude.{◌⊎◌, ℕ, ◌≤◌}
use Rattle.process_disk.specs.Disk.{FileSet, Disk, Same, SameBut}

-- each file set that a crash at some moment since t may have left has P
pub record EachImage (disk : Disk) (t : ℕ) (P : FileSet → Type 0) : Type 0 where
  pub has : (c : FileSet) → disk.left_since t c → P c

-- images follow from one moment to the next: a crash since t may have left what it might have left by the first, or was one since
-- the first
pub record ImagesFollow (old new : Disk) : Type 0 where
  pub later : old.moment ≤ new.moment
  pub nothing_else : (t : ℕ) (c : FileSet) → t ≤ old.moment → new.left_since t c → old.left_since t c ⊎ new.left_since old.moment c
  pub keeps : (t : ℕ) (c : FileSet) → t ≤ old.moment → old.left_since t c → new.left_since t c

-- a run of calls: what is read now, and what a crash since its start may have left, comes by a step from what was read and from
-- what a crash at its start may leave
pub record RunBy (step : FileSet → FileSet → Type 0) (old new : Disk) : Type 0 where
  pub follow : ImagesFollow old new
  pub read : step old.files new.files
  pub images : (c : FileSet) → new.left_since old.moment c → (d : FileSet) × old.may_leave d × step d c

-- files other than q read as before, and stand together in each image as a crash at the start may leave them
abbrev pub OthersAsBefore : ℕ → Disk → Disk → Type 0
OthersAsBefore q = RunBy (SameBut q)

-- all nine files read as before, and each image is one that a crash at the start may leave
abbrev pub AllAsBefore : Disk → Disk → Type 0
AllAsBefore = RunBy Same
