use Rattle.machine_model.proofs.Clear.{undos_wait_by_a5}
use Rattle.machine_model.proofs.laws.undos_wait_by_a5.Goals as goal

pub returns : goal.returns
returns c = undos_wait_by_a5
