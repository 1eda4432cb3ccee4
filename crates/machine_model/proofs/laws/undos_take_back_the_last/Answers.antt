use Rattle.machine_model.proofs.OwnOrderLaws.{undos_take_back_the_last}
use Rattle.machine_model.proofs.laws.undos_take_back_the_last.Goals as goal

pub returns : goal.returns
returns c = undos_take_back_the_last
