use Rattle.std.proofs.Common.{◌≡◌, ◌++◌, length}
use Rattle.dependence_model.specs.Dependence.{entries_of}
use Rattle.dependence_model.specs.SerialOrder.{one_by_one}
use Rattle.audit_core.proofs.ordering.one_by_one.Given as goal

abbrev pub invariant-loop-rest : goal.invariant-loop-rest
invariant-loop-rest l = l.list.items ++ one_by_one l.rest (entries_of l.left) ≡ one_by_one l.order (entries_of l.left)

abbrev pub decreases-loop-rest : goal.decreases-loop-rest
decreases-loop-rest l = length l.rest
