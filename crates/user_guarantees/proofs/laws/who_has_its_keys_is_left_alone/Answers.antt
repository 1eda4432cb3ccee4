use Rattle.user_guarantees.proofs.Independent.{who_has_its_keys_is_left_alone}
use Rattle.user_guarantees.proofs.laws.who_has_its_keys_is_left_alone.Goals as goal

pub returns : goal.returns
returns c = who_has_its_keys_is_left_alone
