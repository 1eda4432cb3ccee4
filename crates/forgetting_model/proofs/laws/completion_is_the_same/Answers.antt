use Rattle.forgetting_model.proofs.CompletesAlike.{completion_is_the_same}
use Rattle.forgetting_model.proofs.laws.completion_is_the_same.Goals as goal

pub returns : goal.returns
returns c = completion_is_the_same
