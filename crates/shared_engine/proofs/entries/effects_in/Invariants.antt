use Rattle.std.proofs.Common.{◌≡◌, ◌≤◌, ◌+◌, ◌-◌, drop, length}
use Rattle.shared_engine.specs.GroupTurns.{effects_in}
use Rattle.shared_engine.proofs.entries.effects_in.Given as goal

abbrev pub invariant-loop-place : goal.invariant-loop-place
invariant-loop-place l = record {
  counted : l.count + effects_in (drop l.place l.fn.group) ≡ effects_in l.fn.group;
  few : l.count ≤ l.place;
  within : l.place ≤ length l.fn.group;
}

abbrev pub decreases-loop-place : goal.decreases-loop-place
decreases-loop-place l = length l.fn.group - l.place
