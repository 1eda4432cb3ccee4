use Rattle.std.proofs.Common.{◌≡◌, ◌+◌, length}
use Rattle.history_opening.specs.Comparing.{difference, difference_from}
use Rattle.history_opening.proofs.comparing.first_difference.Given as goal

abbrev pub invariant-loop-rest : goal.invariant-loop-rest
invariant-loop-rest l = record {
  same : difference_from l.fn.subsystem l.at l.rest l.acts ≡ difference l.fn.subsystem l.fn.own l.fn.acts;
  at : l.at + length l.rest ≡ 1 + length l.fn.own;
}

abbrev pub decreases-loop-rest : goal.decreases-loop-rest
decreases-loop-rest l = length l.rest
