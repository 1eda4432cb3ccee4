-- What a crash leaves of files that are opened.
use Rattle.std.specs.Prelude.{◌≡◌, ◌⊎◌, ◌≤◌, ℕ}
use Rattle.process_disk.specs.Disk.{FileSet, Disk}
use Rattle.process_disk.specs.Images.{AllAsBefore, EachImage}
use Rattle.schedule_model.specs.declared.history.History.{History}
use Rattle.commute_table.specs.declared.catalog.Catalog.{Catalog}
use Rattle.history_files.specs.Sound.{IsSound}
use Rattle.history_opening.specs.declared.faults.OpenError.{OpenError}
use Rattle.history_opening.specs.declared.faults.OpenError.TheVariants.{DiskFault}

-- What an opening leaves: until some moment of the call an image is one that a crash before it may leave, and from then on each
-- is sound for the history.
pub record BecomesSound (c : Catalog) (h : History) (old new : Disk) : Type 0 where
  pub moment : ℕ
  pub begun : old.moment ≤ moment
  pub by_now : moment ≤ new.moment
  pub before : (files : FileSet) → new.left_since old.moment files → old.may_leave files ⊎ new.left_since moment files
  pub each : EachImage new moment (IsSound c h)

-- Files that read as those of this history became sound for it.
pub record FoundSound (c : Catalog) (h : History) (old new : Disk) : Type 0 where
  pub sound : IsSound c h old.files
  pub becomes : BecomesSound c h old new

-- Files that read as those of a history became sound for it.
pub record BeganToSettle (old new : Disk) : Type 0 where
  pub catalog : Catalog
  pub history : History
  pub sound : IsSound catalog history old.files
  pub becomes : BecomesSound catalog history old new

-- What a refused opening leaves: all nine files as before, or, where a call of the rack failed once all were found sound, such
-- files.
abbrev pub LeftByRefusal : OpenError → Disk → Disk → Type 0
LeftByRefusal e old new = AllAsBefore old new ⊎ ((e ≡ DiskFault) × BeganToSettle old new)
