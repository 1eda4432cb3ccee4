use Rattle.schedule_model.proofs.Acyclic.{openings-acyclic}
use Rattle.schedule_model.proofs.laws.openings_are_acyclic.Goals as goal

pub returns : goal.returns
returns c = openings-acyclic
