-- Engines that may take a call.
use Rattle.std.specs.Prelude.{◌≢◌, List}
use Rattle.resource_box.specs.declared.resource.Resource.{Ghosts as Resources}
use Rattle.machine_model.specs.Replies.{Handed}
use Rattle.history_files.specs.Standing.{EachFits}
use Rattle.engine_steps.specs.Engines.{EngineState}
use Rattle.engine_steps.specs.declared.engines.Phase.TheVariants as phase
use Rattle.process_engine.specs.Queues.{AreQueued}
use Rattle.engine_calls.specs.Runs.{IsReady as IsReadyToRun}

-- Its boxes fit the books, and no piece is on its way through the files.
pub record IsReady {R B : Type 0} (box : Resources B) (e : EngineState R B) : Type 0 where
  pub fits : EachFits box e.files.stores
  pub whole : e.phase ≢ phase.UnderWay

-- It may be called, and these are queued at it.
pub record MayQueue {R B : Type 0} (box : Resources B) (e : EngineState R B)
    (group : List Handed) : Type 0 where
  pub ready : IsReadyToRun box e
  pub queued : AreQueued e group
