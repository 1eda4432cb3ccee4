use Rattle.exactly_once.proofs.ExactlyOnce.{nobody_has_to_decide}
use Rattle.exactly_once.proofs.SettlingEnds.{settling_ends}
use Rattle.exactly_once.proofs.laws.settling_ends.Goals as goal

pub returns : goal.returns
returns c = record { ends = settling_ends; decided = nobody_has_to_decide }
