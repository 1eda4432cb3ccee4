use Rattle.machine_model.proofs.HoldChanges.{hands_reserve}
use Rattle.machine_model.proofs.laws.hands_reserve.Goals as goal

pub returns : goal.returns
returns c = hands_reserve
