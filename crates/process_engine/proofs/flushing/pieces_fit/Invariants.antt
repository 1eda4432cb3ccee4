use Rattle.std.proofs.Common.{length}
use Rattle.process_tree.specs.Order.{Each}
use Rattle.process_engine.specs.Pieces.{FitsItsBytes}
use Rattle.process_engine.specs.Queues.{pieces_of}
use Rattle.process_engine.proofs.flushing.pieces_fit.Given as goal

abbrev pub invariant-loop-rest : goal.invariant-loop-rest
invariant-loop-rest l = Each FitsItsBytes (pieces_of l.rest) → Each FitsItsBytes (pieces_of l.fn.pieces)

abbrev pub decreases-loop-rest : goal.decreases-loop-rest
decreases-loop-rest l = length l.rest
