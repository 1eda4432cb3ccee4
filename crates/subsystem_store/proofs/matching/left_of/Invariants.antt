use Rattle.std.proofs.Common.{◌≡◌, ◌≤◌, ◌+◌, length}
use Rattle.subsystem_store.specs.Matching.{left_of}
use Rattle.subsystem_store.proofs.matching.left_of.Given as goal

abbrev pub invariant-loop-rest : goal.invariant-loop-rest
invariant-loop-rest l = record {
  left : left_of l.undo l.left l.rest ≡ left_of l.undo l.left-2 l.effects;
  few : l.left + length l.rest ≤ l.left-2 + length l.effects;
}

abbrev pub decreases-loop-rest : goal.decreases-loop-rest
decreases-loop-rest l = length l.rest
