use Rattle.machine_model.proofs.EndedFree.{ended_is_free}
use Rattle.machine_model.proofs.laws.ended_is_free.Goals as goal

pub returns : goal.returns
returns c = ended_is_free
