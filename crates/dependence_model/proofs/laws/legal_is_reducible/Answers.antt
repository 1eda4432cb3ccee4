use Rattle.dependence_model.proofs.Exact.{legal-reducible}
use Rattle.dependence_model.proofs.laws.legal_is_reducible.Goals as goal

pub returns : goal.returns
returns c = legal-reducible
