use Rattle.dependence_model.proofs.PlacedTakings.{left-unique}
use Rattle.dependence_model.proofs.laws.left_is_unique.Goals as goal

pub returns : goal.returns
returns c = left-unique
