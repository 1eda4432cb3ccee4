use Rattle.forgetting_model.proofs.MomentLaws.{something_is_left}
use Rattle.forgetting_model.proofs.laws.something_is_left.Goals as goal

pub returns : goal.returns
returns c = something_is_left
