use Rattle.std.proofs.Common.{◌≡◌, length}
use Rattle.dependence_model.specs.SerialOrder.{first_free}
use Rattle.audit_core.specs.Arrows.{AreBelow, arrow_in}
use Rattle.audit_core.proofs.ordering.first_free.Given as goal

abbrev pub invariant-loop-rest : goal.invariant-loop-rest
invariant-loop-rest l = record {
  below : AreBelow l.rest;
  free : first_free (arrow_in l.rows) l.all l.rest ≡ first_free (arrow_in l.rows) l.all l.all;
}

abbrev pub decreases-loop-rest : goal.decreases-loop-rest
decreases-loop-rest l = length l.rest
