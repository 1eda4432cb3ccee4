use Rattle.machine_model.proofs.HoldChanges.{steps_take_effect}
use Rattle.machine_model.proofs.laws.steps_take_effect.Goals as goal

pub returns : goal.returns
returns c = steps_take_effect
