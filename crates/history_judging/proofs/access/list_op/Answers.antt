use Rattle.std.proofs.Common.{eqb, sym, ◌∙◌, ap}
use Rattle.std.specs.List.{list_any}
use Rattle.history_judging.proofs.OperationsOf.{op-listed}
use Rattle.history_judging.proofs.access.list_op.Goals as goal

pub returns-else-not-has_op : goal.returns-else-not-has_op
returns-else-not-has_op c p =
    op-listed p c.args.op c.args.ops.now.items
    (ap (list_any (eqb c.args.op)) (sym c.deref.ensures.value) ∙ (sym c.has_op.ensures ∙ c.if-not-has_op.false))
