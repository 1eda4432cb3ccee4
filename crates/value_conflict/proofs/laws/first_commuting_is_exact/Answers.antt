use Rattle.value_conflict.proofs.LeastPair.{first_commuting-is_exact}
use Rattle.value_conflict.proofs.laws.first_commuting_is_exact.Goals as goal

pub returns : goal.returns
returns c = first_commuting-is_exact
