use Rattle.schedule_model.proofs.Prefixes.{prefix-law}
use Rattle.schedule_model.proofs.laws.beginnings_are_legal.Goals as goal

pub returns : goal.returns
returns c = prefix-law
