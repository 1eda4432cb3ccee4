use Rattle.forgetting_model.proofs.RemainsLegal.{what_remains_goes_on_alike}
use Rattle.forgetting_model.proofs.laws.what_remains_goes_on_alike.Goals as goal

pub returns : goal.returns
returns c = what_remains_goes_on_alike
