use Rattle.forgetting_model.proofs.ForgettingTwice.{forgetting_twice_is_forgetting_once}
use Rattle.forgetting_model.proofs.laws.forgetting_twice_is_forgetting_once.Goals as goal

pub returns : goal.returns
returns c = forgetting_twice_is_forgetting_once
