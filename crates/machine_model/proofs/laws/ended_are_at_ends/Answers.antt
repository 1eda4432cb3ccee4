use Rattle.machine_model.proofs.OwnOrderLaws.{ended_are_at_ends}
use Rattle.machine_model.proofs.laws.ended_are_at_ends.Goals as goal

pub returns : goal.returns
returns c = ended_are_at_ends
