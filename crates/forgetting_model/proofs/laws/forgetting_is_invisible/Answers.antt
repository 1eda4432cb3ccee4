use Rattle.forgetting_model.proofs.Invisible.{forgetting_is_invisible}
use Rattle.forgetting_model.proofs.laws.forgetting_is_invisible.Goals as goal

pub returns : goal.returns
returns c = forgetting_is_invisible
