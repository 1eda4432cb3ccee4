use Rattle.std.proofs.Common.{◌∙◌, ℕ, List, ◌++◌, ap}
use Rattle.process_tree.specs.declared.plan.Plan.{Plan}
use Rattle.process_text.specs.Canonical.{line_of}
use Rattle.schedule_model.specs.declared.history.History.{History}
use Rattle.engine_steps.specs.Engines.{EngineState}
use Rattle.session_text.specs.Answers.{exhausted_words}
use Rattle.scenario_run.specs.Reports.{report_in}
use Rattle.scenario_run.proofs.reporting.stuck_report.Goals as goal

pub returns-clause-text : goal.returns-clause-text
returns-clause-text g c =
    let old = c.args.engine.now in
    let i = c.args.i in
    let left = c.stuck_step-step.ensures.left in
    let step = c.stuck_step-step.result in
    c.in_ok-put_exhausted.ensures
    ∙ (ap (λ (xs : List ℕ). xs ++ line_of (exhausted_words c.history.result.now.plans i step)) (c.in_ok-text.ensures ∙ ap (λ (e : EngineState g.row.R.Denot g.row.B.Denot). report_in e.catalog e.core) left)
    ∙ (ap (λ (ps : List Plan). report_in old.catalog old.core ++ line_of (exhausted_words ps i step))
    (ap (λ (h : History). h.plans) c.history.ensures ∙ ap (λ (e : EngineState g.row.R.Denot g.row.B.Denot). e.core.plans) left)
    ∙ ap (λ b. report_in old.catalog old.core ++ line_of (exhausted_words old.core.plans i b)) c.stuck_step-step.ensures.step))
