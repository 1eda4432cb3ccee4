use Rattle.std.proofs.Common.{◌≡◌, length}
use Rattle.process_tree.specs.Order.{Each}
use Rattle.process_engine.specs.Queueing.{is_any_at}
use Rattle.process_engine.specs.Queues.{IsUnfinished, pieces_of}
use Rattle.process_engine.proofs.queueing.is_any_at.Given as goal

abbrev pub invariant-loop-rest : goal.invariant-loop-rest
invariant-loop-rest g l = record {
  unfinished : Each (IsUnfinished l.fn.engine.core) (pieces_of l.rest);
  same : is_any_at l.fn.engine (pieces_of l.rest) l.fn.piece.piece ≡ is_any_at l.fn.engine (pieces_of l.fn.pieces) l.fn.piece.piece;
}

abbrev pub decreases-loop-rest : goal.decreases-loop-rest
decreases-loop-rest g l = length l.rest
