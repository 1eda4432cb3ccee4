-- Histories that are the same but for where their plans lie in memory: what is said of one is said of the other.
use Rattle.std.specs.Prelude.{◌≡◌, ℕ, List}
use Rattle.process_disk.specs.Disk.{FileSet}
use Rattle.schedule_model.specs.declared.event.Event.{Event}
use Rattle.schedule_model.specs.declared.history.History.{History}
use Rattle.schedule_model.specs.Course.{courses_of}
use Rattle.reduction_trace.specs.Whole.{completed_history}
use Rattle.commute_table.specs.declared.catalog.Catalog.{Catalog}
use Rattle.commute_table.specs.declared.op.Op.{Op}
use Rattle.process_journal.specs.Journals.{IsHistoryUnder}
use Rattle.process_journal.specs.Laws.{IsSameHistory, beginning}
use Rattle.process_journal.specs.Opened.{IsJournalOf}
use Rattle.history_files.specs.Effects.{effects}
use Rattle.history_files.specs.Sound.{IsSound}

-- To be the same is an equivalence.
pub record SameIsEquivalence : Type 0 where
  pub itself : (h : History) → IsSameHistory h h
  pub turned : (h k : History) → IsSameHistory h k → IsSameHistory k h
  pub through : (h k l : History) → IsSameHistory h k → IsSameHistory k l → IsSameHistory h l

-- The same history has the same courses, so the same completion and the same effects; and its beginnings are the same.
pub record SameSays (h k : History) : Type 0 where
  pub courses : courses_of h.plans ≡ courses_of k.plans
  pub completed : completed_history h ≡ completed_history k
  pub effects : (ops : List Op) (q : ℕ) → effects ops h q ≡ effects ops k q
  pub beginnings : (g : List Event) → IsSameHistory (beginning h g) (beginning k g)

-- A journal may have a history where it may have the same one, and files are the journal of the one, and sound for it, where they
-- are so of the other.
pub record SameStands (c : Catalog) (h k : History) : Type 0 where
  pub under : IsHistoryUnder c h → IsHistoryUnder c k
  pub journal : (files : FileSet) → IsJournalOf c h files → IsJournalOf c k files
  pub sound : (files : FileSet) → IsSound c h files → IsSound c k files

-- Files are sound for one catalog and one history at most.
abbrev pub OneSoundHistory : Type 0
OneSoundHistory = (c d : Catalog) (h k : History) (files : FileSet) → IsSound c h files → IsSound d k files
    → (d ≡ c) × IsSameHistory h k

-- So it is of all of them.
pub record SameHistoriesAreAlike : Type 0 where
  pub equivalence : SameIsEquivalence
  pub says : (h k : History) → IsSameHistory h k → SameSays h k
  pub stands : (c : Catalog) (h k : History) → IsSameHistory h k → SameStands c h k
  pub one : OneSoundHistory
