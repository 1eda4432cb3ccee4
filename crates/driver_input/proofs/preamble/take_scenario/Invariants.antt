use Rattle.std.proofs.Common.{◌≡◌, ◌≤◌, ◌-◌, length, vec_len}
use Rattle.line_reader.specs.Taking.{most_ahead}
use Rattle.driver_input.proofs.InFront.{IsInFront}
use Rattle.driver_input.proofs.preamble.take_scenario.Given as goal

-- whole lines of the scenario were taken, and no call failed
abbrev pub invariant-loop-alloc : goal.invariant-loop-alloc
invariant-loop-alloc g l = record {
  in_front : IsInFront (g.S.Source.left l.fn.source) (g.S.Source.left l.source) l.scenario.items l.reader l.number;
  quiet : g.S.Source.faults l.source ≡ g.S.Source.faults l.fn.source;
  little : length l.reader ≤ most_ahead;
}

abbrev pub decreases-loop-alloc : goal.decreases-loop-alloc
decreases-loop-alloc g l = 1048577 - vec_len l.scenario
