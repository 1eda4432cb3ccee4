use Rattle.machine_model.proofs.HoldSteps.{net_goes_by_pieces}
use Rattle.machine_model.proofs.laws.net_goes_by_pieces.Goals as goal

pub returns : goal.returns
returns c = net_goes_by_pieces
