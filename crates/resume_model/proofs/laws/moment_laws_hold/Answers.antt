use Rattle.resume_model.proofs.MomentLaws.{moment_laws_hold}
use Rattle.resume_model.proofs.laws.moment_laws_hold.Goals as goal

pub returns : goal.returns
returns c = moment_laws_hold
