use Rattle.std.proofs.Common.{◌≡◌, length, vec_capacity, map}
use Rattle.engine_steps.specs.Engines.{with_core}
use Rattle.process_engine.specs.Ends.{ended_as}
use Rattle.process_engine.proofs.KeptEnds.{IsKeptSoFar}
use Rattle.process_engine.proofs.flushing.keep_each.Given as goal

abbrev pub invariant-loop-engine : goal.invariant-loop-engine
invariant-loop-engine g l = record {
  kept : IsKeptSoFar l.fn.engine.core l.fn.pieces.items l.engine.core l.pieces.items (map ended_as l.ends.items);
  engine : l.engine ≡ with_core l.fn.engine l.engine.core;
  capacity : vec_capacity l.pieces ≡ vec_capacity l.fn.pieces;
}

abbrev pub decreases-loop-engine : goal.decreases-loop-engine
decreases-loop-engine g l = length l.pieces.items
