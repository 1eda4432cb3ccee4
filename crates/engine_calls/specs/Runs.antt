-- An engine goes on: what it has kept, and what a crash may have left, from one moment of an engine to a later one.
use Rattle.std.specs.Prelude.{◌≡◌, ◌≤◌, ℕ, List, ◌++◌}
use Rattle.process_disk.specs.declared.rack.Rack.{Ghosts as Racks}
use Rattle.process_disk.specs.Disk.{Disk, Told}
use Rattle.process_disk.specs.Images.{ImagesFollow}
use Rattle.process_flow.specs.Causes.{Rose}
use Rattle.process_tree.specs.declared.plan.Plan.{Plan}
use Rattle.process_tree.specs.declared.play.Outcome.{Outcome}
use Rattle.schedule_model.specs.declared.event.Event.{Event}
use Rattle.resource_box.specs.declared.resource.Resource.{Ghosts as Resources}
use Rattle.machine_model.specs.declared.kept.Kept.{Kept}
use Rattle.machine_model.specs.Replies.{Handed}
use Rattle.process_core.specs.Cores.{history_of}
use Rattle.history_files.specs.Standing.{EachFits}
use Rattle.engine_steps.specs.Engines.{EngineState, full_history}
use Rattle.engine_steps.specs.declared.engines.Phase.TheVariants as phase
use Rattle.process_engine.specs.Finishing.{Finishes}
use Rattle.process_engine.specs.declared.finishing.Finish.{Finish}
use Rattle.engine_calls.specs.Acknowledged.{ComeInTurn, IsOneAhead, events_of}

-- A settled engine that may be called: nothing is under way, and each box has the values of its book.
pub record IsReady {R B : Type 0} (box : Resources B) (e : EngineState R B) : Type 0 where
  pub settled : e.phase ≡ phase.Settled
  pub fits : EachFits box e.files.stores

-- a call of the rack failed, so that its count of faults rose, and the engine is closed
abbrev pub IsClosedByFault : {R B : Type 0} → Racks R → EngineState R B → EngineState R B → Type 0
IsClosedByFault racks old new = (new.phase ≡ phase.Closed) × Rose (racks.faults old.files.rack) (racks.faults new.files.rack)

-- A piece ended by one of its two outcomes, with this answer.
pub record EndsPiece {R B : Type 0} (disk : R → Disk) (old new : EngineState R B) (p : Handed) (result : Finish) : Type 0 where
  pub outcome : Outcome
  pub finishes : Finishes disk old new p outcome result

-- An engine went on from one state to another; no start was under way but of one of these plans.
pub record GoesOn {R B : Type 0} (racks : Racks R) (may_start : List Plan)
    (old new : EngineState R B) : Type 0 where
  pub catalog : new.catalog ≡ old.catalog
  pub conflicts : new.core.conflicts ≡ old.core.conflicts
  pub opening : new.core.opening ≡ old.core.opening
  -- what was kept meanwhile
  pub added : List Kept
  pub kept : new.core.kept ≡ old.core.kept ++ added
  -- the plans of the processes that started meanwhile
  pub started : List Plan
  pub plans : new.core.plans ≡ old.core.plans ++ started
  -- what happened meanwhile, and from which moment on it is kept
  pub came : List (ℕ × List Event)
  pub events : history_of new.core ≡ history_of old.core ++ events_of came
  pub tells : (racks.disk new.files.rack).tells ≡ (racks.disk old.files.rack).tells
  pub later : racks.faults old.files.rack ≤ racks.faults new.files.rack
  pub follow : Told (racks.disk old.files.rack) → ImagesFollow (racks.disk old.files.rack) (racks.disk new.files.rack)
  -- whatever a crash meanwhile may have left
  pub images : Told (racks.disk old.files.rack)
      → ComeInTurn new.catalog (full_history new.core) (IsOneAhead new.catalog may_start new.core new.phase)
      (racks.disk new.files.rack) (history_of old.core) (racks.disk old.files.rack).moment came

-- It went on and nobody asked for a start: so it did whichever plans may start.
abbrev pub GoesOnAlone : {R B : Type 0} → Racks R → EngineState R B → EngineState R B → Type 0
GoesOnAlone racks old new = (may_start : List Plan) → GoesOn racks may_start old new
