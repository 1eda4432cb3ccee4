use Rattle.machine_model.proofs.OverPieces.{over_is_finished}
use Rattle.machine_model.proofs.laws.over_is_finished.Goals as goal

pub returns : goal.returns
returns c = over_is_finished
