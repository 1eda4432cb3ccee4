use Rattle.machine_model.proofs.HandsBound.{hands_are_within_tries}
use Rattle.machine_model.proofs.laws.hands_are_within_tries.Goals as goal

pub returns : goal.returns
returns c = hands_are_within_tries
