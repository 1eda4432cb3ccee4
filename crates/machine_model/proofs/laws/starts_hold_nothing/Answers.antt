use Rattle.machine_model.proofs.HoldStarts.{starts_hold_nothing}
use Rattle.machine_model.proofs.laws.starts_hold_nothing.Goals as goal

pub returns : goal.returns
returns c = starts_hold_nothing
