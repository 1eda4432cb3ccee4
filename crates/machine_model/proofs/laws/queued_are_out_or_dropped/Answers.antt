use Rattle.machine_model.proofs.QueuedPieces.{queued_are_out_or_dropped}
use Rattle.machine_model.proofs.laws.queued_are_out_or_dropped.Goals as goal

pub returns : goal.returns
returns c = queued_are_out_or_dropped
