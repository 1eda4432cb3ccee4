use Rattle.machine_model.proofs.HoldChanges.{undos_take_effect}
use Rattle.machine_model.proofs.laws.undos_take_effect.Goals as goal

pub returns : goal.returns
returns c = undos_take_effect
