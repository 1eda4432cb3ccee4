use Rattle.forgetting_model.proofs.RemainsLegal.{what_remains_is_legal}
use Rattle.forgetting_model.proofs.laws.what_remains_is_legal.Goals as goal

pub returns : goal.returns
returns c = what_remains_is_legal
