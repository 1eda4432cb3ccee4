use Rattle.std.proofs.Common.{◌≡◌, find, length}
use Rattle.named_conflicts.specs.Under.{is_none, number_under}
use Rattle.named_conflicts.proofs.naming.unknown_among.Given as goal

abbrev pub invariant-loop-rest : goal.invariant-loop-rest
invariant-loop-rest l = find (λ k. is_none (number_under l.others l.ops k)) l.rest ≡ find (λ k. is_none (number_under l.others l.ops k)) l.numbers

abbrev pub decreases-loop-rest : goal.decreases-loop-rest
decreases-loop-rest l = length l.rest
