use Rattle.std.proofs.Common.{◌≡◌, ◌++◌, length}
use Rattle.audit_run.specs.Outcomes.{left_text}
use Rattle.audit_run.proofs.printing.put_left.Given as goal

abbrev pub invariant-loop-rest : goal.invariant-loop-rest
invariant-loop-rest l = l.out.items ++ left_text l.plans l.ops l.rest ≡ l.fn.out.items ++ left_text l.plans l.ops l.left

abbrev pub decreases-loop-rest : goal.decreases-loop-rest
decreases-loop-rest l = length l.rest
