use Rattle.machine_model.proofs.HandsSum.{bound_on_hands}
use Rattle.machine_model.proofs.laws.bound_on_hands.Goals as goal

pub returns : goal.returns
returns c = bound_on_hands
