use Rattle.machine_model.proofs.DroppedPieces.{dropped_change_no_answer}
use Rattle.machine_model.proofs.laws.dropped_change_no_answer.Goals as goal

pub returns : goal.returns
returns c = dropped_change_no_answer
