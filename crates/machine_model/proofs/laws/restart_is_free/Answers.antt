use Rattle.machine_model.proofs.RestartFree.{restart_is_free}
use Rattle.machine_model.proofs.laws.restart_is_free.Goals as goal

pub returns : goal.returns
returns c = restart_is_free
