use Rattle.std.proofs.Common.{◌≡◌, ◌≤◌, drop, length}
use Rattle.process_expand.specs.Expansion.{state_from}
use Rattle.process_expand.specs.States.{state_of}
use Rattle.process_expand.proofs.expansion.expanded.Given as goal

abbrev pub invariant-loop-left : goal.invariant-loop-left
invariant-loop-left l = record {
  state : state_of l.written ≡ state_from (drop l.left l.tokens);
  within : l.left ≤ length l.tokens;
}

abbrev pub decreases-loop-left : goal.decreases-loop-left
decreases-loop-left l = l.left
