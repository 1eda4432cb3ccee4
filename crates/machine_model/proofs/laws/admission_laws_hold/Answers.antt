use Rattle.machine_model.proofs.WholeLaws.{admission_laws_hold}
use Rattle.machine_model.proofs.laws.admission_laws_hold.Goals as goal

pub returns : goal.returns
returns c = admission_laws_hold
