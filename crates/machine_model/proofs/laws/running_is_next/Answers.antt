use Rattle.machine_model.proofs.RunningNext.{running_is_next}
use Rattle.machine_model.proofs.laws.running_is_next.Goals as goal

pub returns : goal.returns
returns c = running_is_next
