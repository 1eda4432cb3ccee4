use Rattle.same_histories.proofs.SameHistories.{same_histories}
use Rattle.same_histories.proofs.same_histories_are_alike.Goals as goal

pub returns : goal.returns
returns c = same_histories
