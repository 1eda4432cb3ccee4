use Rattle.driver_guarantees.proofs.PassedOver.{nobody_is_passed_over}
use Rattle.driver_guarantees.proofs.laws.nobody_is_passed_over.Goals as goal

pub returns : goal.returns
returns c = nobody_is_passed_over
