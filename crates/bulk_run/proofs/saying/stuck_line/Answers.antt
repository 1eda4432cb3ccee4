use Rattle.std.proofs.Common.{◌∙◌, ℕ, List, ◌++◌, ap}
use Rattle.process_tree.specs.declared.plan.Plan.{Plan}
use Rattle.process_text.specs.Canonical.{line_of}
use Rattle.schedule_model.specs.declared.history.History.{History}
use Rattle.engine_steps.specs.Engines.{EngineState}
use Rattle.session_text.specs.Answers.{exhausted_words}
use Rattle.bulk_run.specs.Bulk.{line_in}
use Rattle.bulk_run.proofs.saying.stuck_line.Goals as goal

pub returns-clause-text : goal.returns-clause-text
returns-clause-text g c =
    let old = c.args.engine.now in
    let i = c.args.i in
    let left = c.stuck_step-step.ensures.left in
    let step = c.stuck_step-step.result in
    c.in_ok-put_exhausted.ensures
    ∙ (ap (λ (xs : List ℕ). xs ++ line_of (exhausted_words c.history.result.now.plans i step)) (c.in_ok-text.ensures ∙ ap (λ (e : EngineState g.row.R.Denot g.row.B.Denot). line_in e.core) left)
    ∙ (ap (λ (ps : List Plan). line_in old.core ++ line_of (exhausted_words ps i step))
    (ap (λ (h : History). h.plans) c.history.ensures ∙ ap (λ (e : EngineState g.row.R.Denot g.row.B.Denot). e.core.plans) left)
    ∙ ap (λ b. line_in old.core ++ line_of (exhausted_words old.core.plans i b)) c.stuck_step-step.ensures.step))
