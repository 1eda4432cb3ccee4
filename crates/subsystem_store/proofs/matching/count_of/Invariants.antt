use Rattle.std.proofs.Common.{◌≡◌, ◌≤◌, ◌+◌, length}
use Rattle.subsystem_store.specs.Matching.{count_of}
use Rattle.subsystem_store.proofs.matching.count_of.Given as goal

abbrev pub invariant-loop-rest : goal.invariant-loop-rest
invariant-loop-rest l = record {
  count : l.count + count_of l.undo l.rest ≡ count_of l.undo l.undoable;
  few : l.count + length l.rest ≤ length l.undoable;
}

abbrev pub decreases-loop-rest : goal.decreases-loop-rest
decreases-loop-rest l = length l.rest
