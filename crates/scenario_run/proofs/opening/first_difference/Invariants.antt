use Rattle.std.proofs.Common.{◌≡◌, ◌+◌, length}
use Rattle.std.specs.Option.{option_map}
use Rattle.scenario_run.specs.Opening.{first_difference}
use Rattle.scenario_run.proofs.opening.first_difference.Given as goal

-- what differs first stands so many places further on
abbrev pub invariant-loop-rest : goal.invariant-loop-rest
invariant-loop-rest l = record {
  same : option_map (λ n. l.place + n) (first_difference l.rest l.behind) ≡ first_difference l.fn.own l.fn.other;
  count : l.place + length l.rest ≡ length l.fn.own;
}

abbrev pub decreases-loop-rest : goal.decreases-loop-rest
decreases-loop-rest l = length l.rest
