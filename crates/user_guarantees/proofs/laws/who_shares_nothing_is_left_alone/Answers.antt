use Rattle.user_guarantees.proofs.Independent.{who_shares_nothing_is_left_alone}
use Rattle.user_guarantees.proofs.laws.who_shares_nothing_is_left_alone.Goals as goal

pub returns : goal.returns
returns c = who_shares_nothing_is_left_alone
