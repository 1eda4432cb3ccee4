use Rattle.schedule_model.proofs.Prefixes.{first_illegal-exact}
use Rattle.schedule_model.proofs.laws.first_illegal_is_exact.Goals as goal

pub returns : goal.returns
returns c = first_illegal-exact
