use Rattle.std.proofs.Common.{◌≡◌, ◌++◌, length}
use Rattle.dependence_model.specs.Dependence.{processes_of}
use Rattle.audit_core.proofs.ordering.processes_of.Given as goal

abbrev pub invariant-loop-rest : goal.invariant-loop-rest
invariant-loop-rest l = l.processes.items ++ processes_of l.rest ≡ processes_of l.left

abbrev pub decreases-loop-rest : goal.decreases-loop-rest
decreases-loop-rest l = length l.rest
