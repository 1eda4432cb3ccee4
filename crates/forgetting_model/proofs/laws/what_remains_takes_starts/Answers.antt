use Rattle.forgetting_model.proofs.StartsTaken.{what_remains_takes_starts}
use Rattle.forgetting_model.proofs.laws.what_remains_takes_starts.Goals as goal

pub returns : goal.returns
returns c = what_remains_takes_starts
