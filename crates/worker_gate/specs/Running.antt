-- Processes that are only run: none starts, and none is asked to complete.
use Rattle.std.specs.Prelude.{◌≡◌, ◌⊎◌, ⊤, List, [], ◌∷◌, ◌++◌, Option, Some, None}
use Rattle.process_disk.specs.declared.rack.Rack.{Ghosts as Racks}
use Rattle.process_tree.specs.Order.{Each}
use Rattle.process_tree.specs.declared.play.Outcome.{Outcome}
use Rattle.schedule_model.specs.Histories.{active}
use Rattle.machine_model.specs.declared.kept.Kept.{Kept}
use Rattle.machine_model.specs.declared.kept.Kept.TheVariants.{Start, Hand, Effect, Refuse, Abort, Victim, Restart}
use Rattle.machine_model.specs.Calls.{finish, next, next_is}
use Rattle.machine_model.specs.Replies.{Handed, chosen, stuck}
use Rattle.commute_table.specs.declared.catalog.Catalog.{Catalog}
use Rattle.process_core.specs.Answers.{after_call, answer_in}
use Rattle.process_core.specs.Cores.{CoreState, IsCore, history_of, moment_of}
use Rattle.process_core.specs.Moments.{IsStuckIn}
use Rattle.engine_steps.specs.Engines.{EngineState}
use Rattle.engine_steps.specs.declared.engines.Phase.TheVariants as phase
use Rattle.process_engine.specs.declared.finishing.Finish.{Finish}
use Rattle.process_engine.specs.declared.finishing.Finish.TheVariants as finished
use Rattle.engine_calls.specs.GateAnswers.{AskedGate, IsByGate, count_after, kept_since, steps_handed}
use Rattle.engine_calls.specs.Runs.{GoesOnAlone}
use Rattle.worker_gate.specs.declared.alone.RunOutcome.{RunOutcome}
use Rattle.worker_gate.specs.declared.alone.RunOutcome.TheVariants.{AllEnded, Stuck, DiskFault, NoMemory}

-- the event is kept where processes are only run: a piece is handed out or ends, or a victim is made
abbrev pub IsOfRunning : Kept → Type 0
IsOfRunning (Hand piece process step work) = ⊤
IsOfRunning (Effect n) = ⊤
IsOfRunning (Refuse n) = ⊤
IsOfRunning (Victim i) = ⊤
IsOfRunning (Start i) = ⊥
IsOfRunning (Abort i) = ⊥
IsOfRunning Restart = ⊥

-- no piece of a core is out
abbrev pub NothingRuns : CoreState → Type 0
NothingRuns c = (moment_of c).out ≡ []

-- One turn of a thread that runs processes: the machine's answer to a request for any piece; and where that is a piece, it ended by
-- one of its two outcomes, or is still out.
abbrev pub IsTurn : CoreState → CoreState → Type 0
IsTurn old new = (new ≡ after_call old next)
    ⊎ ((d : Handed) × (outcome : Outcome) × ((answer_in old next).reply ≡ next_is (chosen d))
    × (new ≡ after_call (after_call old next) (finish d.piece.number outcome)))

-- turns one after another, each of which led to one of these cores
abbrev pub AreTurns : List CoreState → CoreState → CoreState → Type 0
AreTurns [] old new = new ≡ old
AreTurns (core ∷ cores) old new = IsTurn old core × AreTurns cores core new

-- A gate was asked once for each step and each undo that was handed out since, and for nothing else.
abbrev pub IsAskedOnce : AskedGate → CoreState → CoreState → Type 0
IsAskedOnce gate old new = gate.after.asked ≡ count_after gate.before.asked (steps_handed (kept_since old new))

-- An engine was only run from one state to another, by this gate.
pub record RanBy {R B : Type 0} (racks : Racks R) (gate : AskedGate) (old new : EngineState R B) : Type 0 where
  pub goes : GoesOnAlone racks old new
  -- none started
  pub plans : new.core.plans ≡ old.core.plans
  pub running : Each IsOfRunning (kept_since old.core new.core)
  pub by_gate : IsByGate gate old.catalog old.core new.core
  pub asked_once : IsAskedOnce gate old.core new.core
  -- what was kept is that of these turns
  pub cores : List CoreState
  pub turns : AreTurns cores old.core new.core

-- A machine was this one, and since then processes were only run, by this gate: none started, and none was asked to complete.
pub record HasRun (gate : AskedGate) (c : Catalog) (begun now : CoreState) : Type 0 where
  pub machine : IsCore now
  pub table : now.conflicts ≡ c.conflicts
  pub opening : now.opening ≡ begun.opening
  pub plans : now.plans ≡ begun.plans
  pub kept : now.kept ≡ begun.kept ++ kept_since begun now
  pub running : Each IsOfRunning (kept_since begun now)
  pub by_gate : IsByGate gate c begun now
  pub asked_once : IsAskedOnce gate begun now

-- What the outcome of a run says of the engine after it: all processes have ended; or the machine is stuck now, and so it would
-- answer again; or a call of the rack failed.
abbrev pub IsOutcome : {R B : Type 0} → EngineState R B → RunOutcome → Type 0
IsOutcome e AllEnded = active (history_of e.core) ≡ []
IsOutcome e (Stuck i) =
    ((answer_in e.core next).reply ≡ next_is (stuck i)) × IsStuckIn e.core i
IsOutcome e DiskFault = e.phase ≡ phase.Closed
IsOutcome e NoMemory = ⊤

-- why nothing is run after the end of a piece, if nothing is
abbrev pub failure_of : Finish → Option RunOutcome
failure_of finished.DiskFault = Some DiskFault
failure_of (finished.NoMemory q) = Some NoMemory
failure_of (finished.Effected n) = None
failure_of (finished.Retry k) = None
failure_of finished.Failed = None
failure_of finished.Over = None
failure_of (finished.Dropped k) = None
failure_of finished.Exhausted = None
failure_of (finished.Closed n) = None
