-- Which processes may start in an engine, and why one doesn't.
use Rattle.std.specs.Prelude.{◌≡◌, ◌≢◌, ◌+◌, ℕ, length, Some, None, Result, Ok, Err}
use Rattle.process_tree.specs.declared.plan.Plan.{Plan}
use Rattle.process_tree.specs.Shape.{shape_of}
use Rattle.process_tree.specs.Termination.{IsWellFormed}
use Rattle.process_text.specs.Grammar.{process_of}
use Rattle.schedule_model.specs.declared.history.History.{History}
use Rattle.schedule_model.specs.Course.{course_of}
use Rattle.commute_table.specs.declared.catalog.Catalog.{Catalog}
use Rattle.commute_table.specs.Binding.{IsPlanOf}
use Rattle.machine_model.specs.declared.replies.StartWhy.{StartWhy}
use Rattle.machine_model.specs.declared.replies.StartWhy.TheVariants as core
use Rattle.machine_model.specs.Calls.{start, started}
use Rattle.process_core.specs.Answers.{after_start, answer_in}
use Rattle.process_core.specs.Cores.{CoreState}
use Rattle.process_core.specs.Moments.{refusal_in}
use Rattle.process_journal.specs.Bodies.{with_start}
use Rattle.engine_steps.specs.Engines.{EngineState, full_history}
use Rattle.engine_steps.specs.declared.engines.Phase.TheVariants as phase
use Rattle.engine_steps.specs.declared.beginning.EngineStart.{EngineStart}
use Rattle.engine_steps.specs.declared.beginning.EngineStartWhy.{EngineStartWhy}
use Rattle.engine_steps.specs.declared.beginning.EngineStartWhy.TheVariants.{Closed, TooMany, NoRoom, NoMemory, DiskFault}

-- A plan that may start under a catalog: it is well-formed, and the one that the catalog binds for its name and tree.
pub record IsPlanFor (c : Catalog) (p : Plan) : Type 0 where
  pub bound : IsPlanOf (process_of p.name p.tree) c.ops p
  pub well_formed : IsWellFormed (shape_of p.tree)

-- the history of a core once a process of this plan has started with the next number
abbrev pub history_with : CoreState → Plan → History
history_with core p = with_start (full_history core) (length core.plans + 1) p

-- a core refuses no start of a process of this plan
abbrev pub IsFree : CoreState → Plan → Type 0
IsFree core p = refusal_in core p ≡ None

-- what a core's refusal is of an engine
abbrev pub of_start_why : StartWhy → EngineStartWhy
of_start_why (core.TooMany n) = TooMany n
of_start_why (core.NoRoom n) = NoRoom n
of_start_why core.NoMemory = NoMemory

-- When a start is refused so: the first of these that holds. Want of memory and faults of the rack come where nothing else refuses
-- it.
abbrev pub IsDueToStart : {R B : Type 0} → EngineState R B → Plan → EngineStartWhy → Type 0
IsDueToStart e p (Closed n) = (e.phase ≡ phase.Closed) × (n ≡ length e.core.kept)
IsDueToStart e p (TooMany n) = (e.phase ≢ phase.Closed) × (refusal_in e.core p ≡ Some (core.TooMany n))
IsDueToStart e p (NoRoom n) = (e.phase ≢ phase.Closed) × (refusal_in e.core p ≡ Some (core.NoRoom n))
IsDueToStart e p NoMemory = (e.phase ≢ phase.Closed) × IsFree e.core p
IsDueToStart e p DiskFault = (e.phase ≢ phase.Closed) × IsFree e.core p

-- A start that was made: the answer is the machine's, the core has the process, and the engine is at rest as before.
pub record IsStarted {R B : Type 0} (old new : EngineState R B) (p : Plan) (i : ℕ) : Type 0 where
  pub reply : (answer_in old.core (start (course_of p))).reply ≡ started i
  pub core : new.core ≡ after_start old.core p
  pub settled : old.phase ≡ phase.Settled
  pub phase : new.phase ≡ phase.Settled

-- A start that was refused: its plan is handed back, and why is due. The engine is as before, and where a call of the rack failed
-- it is closed.
pub record IsNotStarted {R B : Type 0} (old new : EngineState R B) (p : Plan) (refused : EngineStart) : Type 0 where
  pub plan : refused.plan ≡ p
  pub why : IsDueToStart old p refused.why
  pub left : refused.why ≢ DiskFault → new ≡ old
  pub closed : refused.why ≡ DiskFault → (new.phase ≡ phase.Closed) × (new.core ≡ old.core)

-- it was refused since a call of the rack failed
abbrev pub IsFault : Result ℕ EngineStart → Type 0
IsFault (Ok i) = ⊥
IsFault (Err refused) = refused.why ≡ DiskFault
