-- What became of files since they were opened on their history.
use Rattle.std.specs.Prelude.{◌≡◌, ◌⊎◌, ◌≤◌, ℕ, List, ◌++◌}
use Rattle.process_disk.specs.Disk.{Disk, FileSet, Told}
use Rattle.process_disk.specs.Images.{EachImage}
use Rattle.process_tree.specs.declared.plan.Plan.{Plan}
use Rattle.schedule_model.specs.declared.event.Event.{Event}
use Rattle.schedule_model.specs.declared.history.History.{History}
use Rattle.commute_table.specs.declared.catalog.Catalog.{Catalog}
use Rattle.process_core.specs.Cores.{CoreState, history_of, opened_on}
use Rattle.history_files.specs.Sound.{IsSound}
use Rattle.engine_steps.specs.Engines.{full_history}
use Rattle.engine_steps.specs.declared.engines.Phase.{Phase}
use Rattle.engine_steps.specs.declared.engines.Phase.TheVariants.{Settled}
use Rattle.engine_calls.specs.Acknowledged.{ComeInTurn, events_of}

-- Until some moment of the opening an image is one that a crash before may leave; of that moment this holds.
pub record FromOpening (holds : ℕ → Type 0) (old new : Disk) : Type 0 where
  pub moment : ℕ
  pub begun : old.moment ≤ moment
  pub by_now : moment ≤ new.moment
  pub before : (files : FileSet) → new.left_since old.moment files → old.may_leave files ⊎ new.left_since moment files
  pub since : holds moment

-- The files, where they are told, were sound for the history before. Since the opening what came was kept in turn, or an image is
-- ahead of it. Unless a call of the rack failed they are sound for the history now, and so is each image of them from now on.
pub record AreKept (c : Catalog) (h : History) (now : CoreState) (IsAhead : FileSet → Type 0) (on : Phase)
    (old new : Disk) : Type 0 where
  pub came : List (ℕ × List Event)
  pub events : history_of now ≡ h.events ++ events_of came
  pub started : List Plan
  pub plans : now.plans ≡ h.plans ++ started
  pub sound : Told old → IsSound c h old.files
  pub in_turn : Told old → FromOpening (λ t. ComeInTurn c (full_history now) IsAhead new h.events t came) old new
  pub read : on ≡ Settled → Told old → IsSound c (full_history now) new.files
  pub each : on ≡ Settled → Told old → EachImage new new.moment (IsSound c (full_history now))

-- The files were opened on this history, and nothing came.
abbrev pub AreOnlyOpened : Catalog → History → Disk → Disk → Type 0
AreOnlyOpened c h old new = AreKept c h (opened_on c.conflicts h.plans h.events) (λ files. ⊥) Settled old new
