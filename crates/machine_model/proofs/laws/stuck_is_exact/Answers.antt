use Rattle.machine_model.proofs.Going.{stuck_is_exact}
use Rattle.machine_model.proofs.laws.stuck_is_exact.Goals as goal

pub returns : goal.returns
returns c = stuck_is_exact
