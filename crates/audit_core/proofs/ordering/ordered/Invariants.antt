use Rattle.std.proofs.Common.{◌≡◌, ◌++◌}
use Rattle.dependence_model.specs.SerialOrder.{ordered}
use Rattle.audit_core.specs.Arrows.{AreBelow, arrow_in}
use Rattle.audit_core.proofs.ordering.ordered.Given as goal

abbrev pub invariant-loop-left : goal.invariant-loop-left
invariant-loop-left l = record {
  below : AreBelow l.all.items;
  order : l.order.items ++ ordered l.left (arrow_in l.rows) l.all.items ≡ ordered l.most (arrow_in l.rows) l.fn.all.items;
}

abbrev pub decreases-loop-left : goal.decreases-loop-left
decreases-loop-left l = l.left
