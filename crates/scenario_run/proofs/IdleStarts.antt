-- Where an engine opened and processes started, no piece is out.
use Rattle.std.proofs.Common.{◌≡◌, ◌∙◌, ℕ, ◌+◌, List, [], ◌∷◌, length, refl, ap, sym, subst}
use Rattle.process_tree.specs.declared.plan.Plan.{Plan}
use Rattle.schedule_model.specs.Conflict.{ConflictRelation}
use Rattle.schedule_model.specs.Course.{Course}
use Rattle.machine_model.specs.declared.kept.Kept.TheVariants.{Start}
use Rattle.machine_model.specs.Advance.{advance, advance_all}
use Rattle.machine_model.specs.Moment.{Moment, opening_moment}
use Rattle.core_state.specs.Cores.{history_of, machine_of, opened_on, relation}
use Rattle.process_core.specs.Cores.{CoreState}
use Rattle.engine_steps.specs.Engines.{EngineState}
use Rattle.engine_steps.specs.Opening.{IsOpened}
use Rattle.worker_gate.specs.Running.{NothingRuns}
use Rattle.scenario_run.specs.Starting.{starts_from, with_started}

-- a start hands out nothing
starts_out : (table : ConflictRelation) (courses : List Course) (m : Moment) (n : ℕ) (ps : List Plan) → (advance_all table courses m (starts_from n ps)).out ≡ m.out
starts_out table courses m n [] = refl
starts_out table courses m n (p ∷ ps) = starts_out table courses (advance table courses m (Start n)) (n + 1) ps

pub nothing_out : {R B : Type 0} (opening : EngineState R B) (core : CoreState) (started : List Plan) → IsOpened opening → core ≡ with_started opening.core started → NothingRuns core
nothing_out opening core started opened is =
    let begun : CoreState = with_started (opened_on opening.catalog.conflicts opening.core.plans (history_of opening.core)) started in
    subst NothingRuns (sym (is ∙ ap (λ c. with_started c started) opened.core))
    (starts_out (relation begun) (machine_of begun).courses (opening_moment (machine_of begun).opening) (length opening.core.plans + 1) started)
