use Rattle.machine_model.proofs.UndoneFree.{undone_is_free}
use Rattle.machine_model.proofs.laws.undone_is_free.Goals as goal

pub returns : goal.returns
returns c = undone_is_free
