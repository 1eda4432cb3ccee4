use Rattle.machine_model.proofs.Dropped.{dropped_is_exact}
use Rattle.machine_model.proofs.laws.dropped_is_exact.Goals as goal

pub returns : goal.returns
returns c = dropped_is_exact
