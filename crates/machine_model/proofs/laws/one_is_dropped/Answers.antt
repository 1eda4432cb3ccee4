use Rattle.machine_model.proofs.OneLost.{one_is_dropped}
use Rattle.machine_model.proofs.laws.one_is_dropped.Goals as goal

pub returns : goal.returns
returns c = one_is_dropped
