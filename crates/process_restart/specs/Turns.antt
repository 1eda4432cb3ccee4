-- One turn after another in which the history of an engine is completed.
use Rattle.std.specs.Prelude.{◌≡◌, ◌≤◌, ℕ, ◌+◌, false, [], ◌∷◌, ◌++◌, length, Option, Some, None, IsTrue}
use Rattle.process_disk.specs.declared.rack.Rack.{Ghosts as Racks}
use Rattle.process_tree.specs.Order.{Each}
use Rattle.resource_box.specs.declared.resource.Resource.{Ghosts as Resources}
use Rattle.schedule_model.specs.Histories.{active, is_active}
use Rattle.reduction_trace.specs.Whole.{completed_history}
use Rattle.machine_model.specs.Laws.{AllHaveBegun, next_in_restart}
use Rattle.machine_model.specs.Replies.{Handed, hand_to, kept_hand}
use Rattle.process_core.specs.Cores.{CoreState, courses_in, history_of, moment_of}
use Rattle.process_core.specs.declared.replies.Admit.{Admit}
use Rattle.process_core.specs.declared.replies.Admit.TheVariants as admits
use Rattle.engine_steps.specs.Engines.{EngineState, full_history}
use Rattle.process_engine.specs.declared.finishing.Finish.{Finish}
use Rattle.process_engine.specs.declared.finishing.Finish.TheVariants as finished
use Rattle.engine_calls.specs.GateAnswers.{AskedGate, IsByGate, kept_since}
use Rattle.engine_calls.specs.Runs.{GoesOnAlone, IsReady}
use Rattle.worker_gate.specs.Running.{IsAskedOnce, IsOfRunning, NothingRuns}
use Rattle.process_restart.specs.Completing.{AreInTurn, IsHeldUpBy}
use Rattle.process_restart.specs.declared.completing.Completion.{Completion}
use Rattle.process_restart.specs.declared.completing.Completion.TheVariants.{DiskFault, NoMemory}

-- So many processes have started and ended, by number.
pub record HaveEnded (core : CoreState) (ended : ℕ) : Type 0 where
  pub none_active : (i : ℕ) → i ≤ ended → is_active (history_of core) i ≡ false
  pub within : ended ≤ length core.plans

-- Who is asked next, where the first so many have ended: the process whose turn it is; or else the next number, which isn't active.
pub record IsAskedNext (core : CoreState) (ended process : ℕ) : Type 0 where
  pub turn : IsTrue (is_active (history_of core) process) → next_in_restart (courses_in core) (moment_of core) ≡ Some process
  pub other : is_active (history_of core) process ≡ false → process ≡ ended + 1

-- An engine between two turns: it may be called, no piece is out, all have begun to complete, and the first so many have ended.
pub record IsAtTurn {R B : Type 0} (box : Resources B) (e : EngineState R B) (ended : ℕ) : Type 0 where
  pub ready : IsReady box e
  pub idle : NothingRuns e.core
  pub begun : AllHaveBegun (moment_of e.core)
  pub have_ended : HaveEnded e.core ended

-- The next piece of the process whose turn it is was handed out.
pub record IsHandedInTurn (old new : CoreState) (process : ℕ) (d : Handed) : Type 0 where
  pub turn : next_in_restart (courses_in old) (moment_of old) ≡ Some process
  pub is : d ≡ hand_to (courses_in old) (moment_of old) process
  pub kept : new.kept ≡ old.kept ++ kept_hand d ∷ []

-- What a request for a piece of who is asked next comes to: the piece is handed out; or nothing is kept, and the process is
-- exhausted, or one process more has ended, or nobody is active.
abbrev pub IsAsked : {R B : Type 0} → EngineState R B → EngineState R B → ℕ → ℕ → Admit → Type 0
IsAsked old new ended process (admits.Piece d) = IsHandedInTurn old.core new.core process d
IsAsked old new ended process (admits.Exhausted step) = (new ≡ old) × IsHeldUpBy old.core process step
IsAsked old new ended process admits.Ended = (new ≡ old) × HaveEnded old.core (ended + 1)
IsAsked old new ended process admits.Unknown = (new ≡ old) × (active (history_of old.core) ≡ [])
IsAsked old new ended process (admits.Blocked b) = ⊥
IsAsked old new ended process admits.Running = ⊥

-- Processes were only run from one state of an engine to another, in turn and by this gate, and the history is completed to the
-- same.
pub record RanInTurn {R B : Type 0} (racks : Racks R) (gate : AskedGate) (old new : EngineState R B) : Type 0 where
  pub goes : GoesOnAlone racks old new
  pub plans : new.core.plans ≡ old.core.plans
  pub running : Each IsOfRunning (kept_since old.core new.core)
  pub by_gate : IsByGate gate old.catalog old.core new.core
  pub asked_once : IsAskedOnce gate old.core new.core
  pub turns : AreInTurn old.core (kept_since old.core new.core)
  pub completed : completed_history (full_history new.core) ≡ completed_history (full_history old.core)

-- why nothing more is completed after the end of a piece, if nothing is
abbrev pub failure_of : Finish → Option Completion
failure_of finished.DiskFault = Some DiskFault
failure_of (finished.NoMemory q) = Some NoMemory
failure_of (finished.Effected n) = None
failure_of (finished.Retry k) = None
failure_of finished.Failed = None
failure_of finished.Over = None
failure_of (finished.Dropped k) = None
failure_of finished.Exhausted = None
failure_of (finished.Closed n) = None
