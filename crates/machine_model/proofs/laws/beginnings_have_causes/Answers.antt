use Rattle.machine_model.proofs.Causes.{beginnings_have_causes}
use Rattle.machine_model.proofs.laws.beginnings_have_causes.Goals as goal

pub returns : goal.returns
returns c = beginnings_have_causes
