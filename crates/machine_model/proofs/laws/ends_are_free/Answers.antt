use Rattle.machine_model.proofs.FreeEnds.{ends_are_free}
use Rattle.machine_model.proofs.laws.ends_are_free.Goals as goal

pub returns : goal.returns
returns c = ends_are_free
