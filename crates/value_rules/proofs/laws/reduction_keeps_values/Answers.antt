use Rattle.value_rules.proofs.Chains.{reduction-keeps_values}
use Rattle.value_rules.proofs.laws.reduction_keeps_values.Goals as goal

pub returns : goal.returns
returns c = reduction-keeps_values
