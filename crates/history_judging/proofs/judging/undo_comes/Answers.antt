use Rattle.std.proofs.Common.{sym, ◌∙◌, ap}
use Rattle.process_tree.specs.Conflicts.{operations_in}
use Rattle.schedule_model.specs.Course.{course_of}
use Rattle.schedule_model.specs.OwnOrder.{is_of_last}
use Rattle.history_judging.specs.Keeping.{Tables}
use Rattle.schedule_rules.specs.Recovering.{backward_among}
use Rattle.schedule_rules.proofs.Known.{op_known, undo_within}
use Rattle.history_judging.proofs.judging.undo_comes.Goals as goal

pub conflicts_behind-requires-clause-entry : goal.conflicts_behind-requires-clause-entry
conflicts_behind-requires-clause-entry c =
    let plan = c.args.plan.now in
    let r = c.requires.ready in
    let e = c.args.e.now in
    op_known plan r.good (operations_in c.args.c.now) r.known e.op e.step c.requires.op
    (undo_within plan r.good c.args.t.now.net e.process e r.branch
    (ap (λ es. is_of_last (backward_among (course_of plan) es e.process) e) (sym (c.deref.ensures.value ∙ ap (λ (t : Tables). t.net) c.t.view_is))
    ∙ (ap (λ es. is_of_last es e) (sym (c.deref-2.ensures.value ∙ c.in_ok-own.ensures)) ∙ (sym c.is_of_last.ensures ∙ c.if-is_of_last.true))))
