use Rattle.user_guarantees.proofs.OwnCauses.{who_shares_nothing_goes_back_of_itself}
use Rattle.user_guarantees.proofs.laws.who_shares_nothing_goes_back_of_itself.Goals as goal

pub returns : goal.returns
returns c = who_shares_nothing_goes_back_of_itself
