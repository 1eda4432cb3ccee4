-- What the layers above say of crashes: images within two histories.
use Rattle.std.specs.Prelude.{◌≡◌, ℕ, List, ◌++◌}
use Rattle.process_disk.specs.Disk.{FileSet, Disk}
use Rattle.process_disk.specs.Images.{EachImage}
use Rattle.schedule_model.specs.declared.event.Event.{Event}
use Rattle.schedule_model.specs.declared.history.History.{History}
use Rattle.commute_table.specs.declared.catalog.Catalog.{Catalog}
use Rattle.process_journal.specs.Laws.{beginning}
use Rattle.history_files.specs.Sound.{IsSound}

-- The files are sound for a beginning of a history that goes at least as far as these events.
pub record IsWithin (c : Catalog) (first : List Event) (h : History) (files : FileSet) : Type 0 where
  pub middle : List Event
  pub last : List Event
  pub is : h.events ≡ first ++ middle ++ last
  pub sound : IsSound c (beginning h (first ++ middle)) files

-- each image since a moment is
abbrev pub ImagesWithin : Catalog → List Event → History → ℕ → Disk → Type 0
ImagesWithin c first h t disk = EachImage disk t (IsWithin c first h)
