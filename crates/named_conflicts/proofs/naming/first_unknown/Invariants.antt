use Rattle.std.proofs.Common.{◌≡◌, length}
use Rattle.named_conflicts.specs.Under.{first_unknown}
use Rattle.named_conflicts.proofs.naming.first_unknown.Given as goal

abbrev pub invariant-loop-rest : goal.invariant-loop-rest
invariant-loop-rest l = first_unknown l.others l.ops l.rest ≡ first_unknown l.others l.ops l.plans

abbrev pub decreases-loop-rest : goal.decreases-loop-rest
decreases-loop-rest l = length l.rest
