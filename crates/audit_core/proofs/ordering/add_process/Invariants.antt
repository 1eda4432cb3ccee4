use Rattle.std.proofs.Common.{◌≡◌, ◌++◌, length}
use Rattle.schedule_model.specs.Histories.{of_process}
use Rattle.dependence_model.specs.Dependence.{entries_of}
use Rattle.audit_core.proofs.ordering.add_process.Given as goal

abbrev pub invariant-loop-rest : goal.invariant-loop-rest
invariant-loop-rest l = l.list.items ++ of_process l.i (entries_of l.rest) ≡ l.fn.list.items ++ of_process l.i (entries_of l.left)

abbrev pub decreases-loop-rest : goal.decreases-loop-rest
decreases-loop-rest l = length l.rest
