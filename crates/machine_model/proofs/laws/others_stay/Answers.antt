use Rattle.machine_model.proofs.OthersStay.{others_stay}
use Rattle.machine_model.proofs.laws.others_stay.Goals as goal

pub returns : goal.returns
returns c = others_stay
