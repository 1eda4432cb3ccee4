-- Why a run stopped once all its processes had started.
use Rattle.std.proofs.Common.{◌≡◌, ◌⊎◌, ◌∙◌, ◌≤◌, ℕ, false, List, [], Result, Ok, Err, IfErr, inl, inr, ap, refl, append-nil, sym}
use Rattle.process_flow.specs.Causes.{Rose}
use Rattle.process_tree.specs.declared.plan.Plan.{Plan}
use Rattle.process_core.specs.Cores.{CoreState}
use Rattle.engine_steps.specs.Engines.{EngineState}
use Rattle.engine_steps.specs.declared.engines.Phase.TheVariants.{Settled, Closed}
use Rattle.process_engine.specs.declared.fitting.StartLimit.{StartLimit}
use Rattle.process_engine.specs.declared.fitting.StartLimit.TheVariants as limits
use Rattle.worker_gate.specs.ManyGates.{AskedGates}
use Rattle.command_refusals.specs.declared.refusal.Refusal.{Refusal}
use Rattle.command_refusals.specs.declared.refusal.Refusal.TheVariants.{DiskFault, NoMemory}
use Rattle.command_input.specs.declared.said.Said.{Said}
use Rattle.command_input.specs.Early.{comes_before_files}
use Rattle.scenario_run.specs.Run.{limit_refusal}
use Rattle.scenario_run.specs.Stops.{IsStoppedBy}
use Rattle.history_opening.proofs.Rising.{rose_later}

module _ {R B : Type 0} (faults : R → ℕ) (gates : AskedGates) (old mid now : EngineState R B) (plans : List Plan) (later : faults old.files.rack ≤ faults mid.files.rack)
    (Gone : List Plan → CoreState → Type 0) (gone : Gone plans now.core) where
  -- memory was wanting, or a call of the rack failed and the engine is closed
  abbrev IsCut : Refusal → Type 0
  IsCut r = ((r ≡ NoMemory) × (now.phase ≡ Settled)) ⊎ ((r ≡ DiskFault) × (now.phase ≡ Closed) × Rose (faults mid.files.rack) (faults now.files.rack))

  pub all_started : (found : Result Said Refusal) → IfErr found IsCut → IfErr found (IsStoppedBy Gone gates faults old now plans)
  all_started (Ok said) cut = tt
  all_started (Err r) (inl memory) = inr (plans, [], sym (append-nil plans), gone, inl memory)
  all_started (Err r) (inr (fault, on, rose)) =
      inr (plans, [], sym (append-nil plans), gone, inr (fault, on, rose_later (faults old.files.rack) (faults mid.files.rack) (faults now.files.rack) later rose))

-- whatever stopped it comes after the files were opened
late_stop : {R B : Type 0} (Gone : List Plan → CoreState → Type 0) (gates : AskedGates) (faults : R → ℕ) (old new : EngineState R B) (plans : List Plan) (r : Refusal) → IsStoppedBy Gone gates faults old new plans r → comes_before_files r ≡ false
late_stop Gone gates faults old new plans r (inl (limit, is, past, same, unasked)) = ap comes_before_files is ∙ late_limit limit
  where
    late_limit : (limit : StartLimit) → comes_before_files (limit_refusal limit) ≡ false
    late_limit (limits.Processes n) = refl
    late_limit (limits.Active n) = refl
    late_limit (limits.Entries n) = refl
late_stop Gone gates faults old new plans r (inr (started, rest, all, gone, inl memory)) = ap comes_before_files memory.0
late_stop Gone gates faults old new plans r (inr (started, rest, all, gone, inr fault)) = ap comes_before_files fault.0

pub stops_are_late : {R B : Type 0} (Gone : List Plan → CoreState → Type 0) (gates : AskedGates) (faults : R → ℕ) (old new : EngineState R B) (plans : List Plan) (found : Result Said Refusal) → IfErr found (λ r. IsStoppedBy Gone gates faults old new plans r)
    → IfErr found (λ r. comes_before_files r ≡ false)
stops_are_late Gone gates faults old new plans (Ok said) stopped = tt
stops_are_late Gone gates faults old new plans (Err r) stopped = late_stop Gone gates faults old new plans r stopped
