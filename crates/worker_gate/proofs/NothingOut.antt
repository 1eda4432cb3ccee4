-- Where no piece is out: in an engine that was opened, and still when processes have started in it.
use Rattle.std.proofs.Common.{◌≡◌, ◌∙◌, ◌+◌, List, [], ◌∷◌, ◌++◌, length, None, ap}
use Rattle.std.proofs.lemmas.List.{map-append}
use Rattle.process_tree.specs.declared.plan.Plan.{Plan}
use Rattle.schedule_model.specs.Course.{Course, course_of, courses_of}
use Rattle.schedule_model.specs.Histories.{starts}
use Rattle.machine_model.specs.declared.kept.Kept.{Kept}
use Rattle.machine_model.specs.declared.kept.Kept.TheVariants.{Start}
use Rattle.machine_model.specs.Advance.{Machine}
use Rattle.machine_model.specs.Calls.{start, start_unless}
use Rattle.machine_model.specs.Moment.{Moment}
use Rattle.machine_model.specs.Runs.{now, start_refusal}
use Rattle.process_core.specs.Answers.{after_start, answer_in}
use Rattle.process_core.specs.Cores.{CoreState, IsCore, courses_in, history_of, moment_of, relation}
use Rattle.process_core.proofs.StartMoments.{moment_after}
use Rattle.engine_steps.specs.Engines.{EngineState}
use Rattle.engine_steps.specs.Opening.{IsOpened}
use Rattle.worker_gate.specs.Running.{NothingRuns}

-- Nothing was handed out yet where the engine was just opened.
pub opened_idle : {R B : Type 0} (e : EngineState R B) → IsOpened e → NothingRuns e.core
opened_idle e opened = ap (λ (c : CoreState). (moment_of c).out) opened.core

-- A start hands nothing out.
module _ (c : CoreState) (core : IsCore c) (p : Plan) (free : start_refusal (courses_in c) (moment_of c) (course_of p) ≡ None) where
  abbrev machine_with : List Course → List Kept → Machine
  machine_with cs ks = record { opening = c.opening; courses = cs; kept = c.kept ++ ks; served = c.served }

  kept_is : (answer_in c (start (course_of p))).kept ≡ Start (length (starts (history_of c)) + 1) ∷ []
  kept_is = ap (λ o. (start_unless (length (starts (history_of c)) + 1) c.served (course_of p) o).kept) free

  moment_is : moment_of (after_start c p) ≡ now (relation c) (machine_with (courses_in c ++ course_of p ∷ []) (Start (length (starts (history_of c)) + 1) ∷ []))
  moment_is = ap (λ ks. now (relation c) (machine_with (courses_of (c.plans ++ p ∷ [])) ks)) kept_is
      ∙ ap (λ cs. now (relation c) (machine_with cs (Start (length (starts (history_of c)) + 1) ∷ []))) (map-append course_of c.plans (p ∷ []))

  pub started_idle : NothingRuns c → NothingRuns (after_start c p)
  started_idle idle = ap (λ (m : Moment). m.out) (moment_is ∙ moment_after c core p) ∙ idle
