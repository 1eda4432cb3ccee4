use Rattle.machine_model.proofs.OwedSteps.{owed_steps_are_free}
use Rattle.machine_model.proofs.laws.owed_steps_are_free.Goals as goal

pub returns : goal.returns
returns c = owed_steps_are_free
