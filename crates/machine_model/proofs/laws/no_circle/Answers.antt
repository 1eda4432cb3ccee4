use Rattle.machine_model.proofs.NoCircle.{no_circle}
use Rattle.machine_model.proofs.laws.no_circle.Goals as goal

pub returns : goal.returns
returns c = no_circle
