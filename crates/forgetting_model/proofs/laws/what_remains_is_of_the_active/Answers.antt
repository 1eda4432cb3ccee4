use Rattle.forgetting_model.proofs.Lives.{what_remains_is_of_the_active}
use Rattle.forgetting_model.proofs.laws.what_remains_is_of_the_active.Goals as goal

pub returns : goal.returns
returns c = what_remains_is_of_the_active
