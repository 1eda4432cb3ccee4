use Rattle.machine_model.proofs.Cascades.{cascade-least}
use Rattle.machine_model.proofs.laws.cascade_is_least.Goals as goal

pub returns : goal.returns
returns c = cascade-least
