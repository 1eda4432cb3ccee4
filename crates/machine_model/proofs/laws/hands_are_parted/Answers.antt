use Rattle.machine_model.proofs.OneLost.{hands_are_parted}
use Rattle.machine_model.proofs.laws.hands_are_parted.Goals as goal

pub returns : goal.returns
returns c = hands_are_parted
