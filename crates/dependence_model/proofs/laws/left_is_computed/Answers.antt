use Rattle.dependence_model.proofs.Computed.{left-computed}
use Rattle.dependence_model.proofs.laws.left_is_computed.Goals as goal

pub returns : goal.returns
returns c = left-computed
