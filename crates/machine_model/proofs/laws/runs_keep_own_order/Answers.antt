use Rattle.machine_model.proofs.OwnOrderLaws.{runs_keep_own_order}
use Rattle.machine_model.proofs.laws.runs_keep_own_order.Goals as goal

pub returns : goal.returns
returns c = runs_keep_own_order
