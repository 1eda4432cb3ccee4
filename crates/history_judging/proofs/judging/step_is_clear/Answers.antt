use Rattle.process_tree.specs.Conflicts.{operations_in}
use Rattle.process_tree.proofs.InTurn.{step_within}
use Rattle.schedule_rules.proofs.Known.{op_known}
use Rattle.history_judging.proofs.judging.step_is_clear.Goals as goal

pub conflicts_with_any-requires-clause-entry : goal.conflicts_with_any-requires-clause-entry
conflicts_with_any-requires-clause-entry c =
    let plan = c.args.plan.now in
    let r = c.requires.ready in
    let e = c.args.e.now in
    op_known plan r.good (operations_in c.args.c.now) r.known e.op e.step c.requires.op (step_within plan.tree c.args.steps.now e.step r.good.tree c.requires.goes)

pub commits-requires-clause-step : goal.commits-requires-clause-step
commits-requires-clause-step c = step_within c.args.plan.now.tree c.args.steps.now c.args.e.now.step c.requires.ready.good.tree c.requires.goes

pub undoable_is_clear-requires-clause-op : goal.undoable_is_clear-requires-clause-op
undoable_is_clear-requires-clause-op c =
    let plan = c.args.plan.now in
    let r = c.requires.ready in
    let e = c.args.e.now in
    op_known plan r.good (operations_in c.args.c.now) r.known e.op e.step c.requires.op (step_within plan.tree c.args.steps.now e.step r.good.tree c.requires.goes)
