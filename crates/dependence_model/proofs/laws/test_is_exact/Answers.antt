use Rattle.dependence_model.proofs.Exact.{test-exact}
use Rattle.dependence_model.proofs.laws.test_is_exact.Goals as goal

pub returns : goal.returns
returns c = test-exact
