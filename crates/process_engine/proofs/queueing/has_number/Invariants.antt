use Rattle.std.proofs.Common.{◌≡◌, length}
use Rattle.schedule_model.specs.Histories.{is_in}
use Rattle.process_engine.specs.Pieces.{numbers_of}
use Rattle.process_engine.specs.Queues.{pieces_of}
use Rattle.process_engine.proofs.queueing.has_number.Given as goal

abbrev pub invariant-loop-rest : goal.invariant-loop-rest
invariant-loop-rest l = is_in l.fn.number (numbers_of (pieces_of l.rest)) ≡ is_in l.fn.number (numbers_of (pieces_of l.fn.pieces))

abbrev pub decreases-loop-rest : goal.decreases-loop-rest
decreases-loop-rest l = length l.rest
