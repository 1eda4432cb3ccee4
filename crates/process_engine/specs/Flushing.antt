-- What a flush does.
use Rattle.std.specs.Prelude.{◌≡◌, ◌≢◌, ⊤, List, [], length}
use Rattle.process_disk.specs.Disk.{Disk, Told}
use Rattle.process_disk.specs.Images.{EachImage}
use Rattle.schedule_model.specs.declared.history.History.{History}
use Rattle.machine_model.specs.Groups.{Ended, flush_reply}
use Rattle.machine_model.specs.Replies.{Handed}
use Rattle.process_core.specs.Cores.{courses_in, history_of, moment_of}
use Rattle.history_files.specs.Sound.{IsSound, IsSoundForEither}
use Rattle.engine_steps.specs.Engines.{EngineState, full_history}
use Rattle.engine_steps.specs.Groups.{with_events}
use Rattle.engine_steps.specs.declared.engines.Phase.TheVariants as phase
use Rattle.process_engine.specs.Pieces.{after_all, events_of, numbers_of}
use Rattle.process_engine.specs.Queues.{pieces_of, running_of}
use Rattle.process_engine.specs.declared.group.Flush.{Flush}
use Rattle.process_engine.specs.declared.group.Flush.TheVariants.{Flushed, DiskFault, Closed}

-- the history with the events of the pieces of a group that run
abbrev pub history_with_group : {R B : Type 0} → EngineState R B → List Handed → History
history_with_group e group = with_events (full_history e.core) (events_of (courses_in e.core) (running_of e.core group))

-- The pieces that run have taken effect, in the order in which they were queued, the others were dropped, and nothing is queued.
pub record IsFlushed {R B : Type 0} (old new : EngineState R B) (group left : List Handed) (ends : List Ended) : Type 0 where
  pub core : new.core ≡ after_all old.core (running_of old.core group)
  pub catalog : new.catalog ≡ old.catalog
  pub phase : new.phase ≡ phase.Settled
  pub told : ends ≡ flush_reply (moment_of old.core) (length (history_of old.core)) (numbers_of (pieces_of group))
  pub none : left ≡ []

-- A call of the rack failed while some piece was to take effect: nothing is kept, and the engine is closed.
pub record IsFailed {R B : Type 0} (old new : EngineState R B) (group left : List Handed) : Type 0 where
  pub core : new.core ≡ old.core
  pub catalog : new.catalog ≡ old.catalog
  pub phase : new.phase ≡ phase.Closed
  pub some : running_of old.core group ≢ []
  pub same : left ≡ group

-- what an answer leaves
abbrev pub Leaves : {R B : Type 0} → EngineState R B → EngineState R B → List Handed → List Handed → Flush → Type 0
Leaves old new group left (Flushed ends) = IsFlushed old new group left ends
Leaves old new group left DiskFault = IsFailed old new group left
Leaves old new group left (Closed n) = ⊥

-- Once a flush is answered its events are the last of the history, and each image from then on is sound for the history with them.
abbrev pub Acknowledges : {R B : Type 0} → EngineState R B → EngineState R B → List Handed → Disk → Flush → Type 0
Acknowledges old new group disk (Flushed ends) = (full_history new.core ≡ history_with_group old group)
    × (Told disk → EachImage disk disk.moment (IsSound old.catalog (history_with_group old group)))
Acknowledges old new group disk DiskFault = ⊤
Acknowledges old new group disk (Closed n) = ⊤

-- What a flush does to an engine that is open and at rest; a crash leaves files that are sound for the history before it, or with
-- the events of all pieces that run.
pub record Flushes {R B : Type 0} (disk : R → Disk) (old new : EngineState R B) (group rest : List Handed) (result : Flush) : Type 0
  where
    pub left : Leaves old new group rest result
    pub any_moment : Told (disk old.files.rack) → EachImage (disk new.files.rack) (disk old.files.rack).moment
        (IsSoundForEither old.catalog (full_history old.core) (history_with_group old group))
    pub acknowledged : Acknowledges old new group (disk new.files.rack) result
