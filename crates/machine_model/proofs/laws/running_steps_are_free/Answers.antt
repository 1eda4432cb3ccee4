use Rattle.machine_model.proofs.RunningFree.{running_steps_are_free}
use Rattle.machine_model.proofs.laws.running_steps_are_free.Goals as goal

pub returns : goal.returns
returns c = running_steps_are_free
