use Rattle.machine_model.proofs.HoldSteps.{running_goes_by_pieces}
use Rattle.machine_model.proofs.laws.running_goes_by_pieces.Goals as goal

pub returns : goal.returns
returns c = running_goes_by_pieces
