use Rattle.machine_model.proofs.Causes.{beginnings_stay}
use Rattle.machine_model.proofs.laws.beginnings_stay.Goals as goal

pub returns : goal.returns
returns c = beginnings_stay
