use Rattle.machine_model.proofs.HoldChanges.{begun_undo_all}
use Rattle.machine_model.proofs.laws.begun_undo_all.Goals as goal

pub returns : goal.returns
returns c = begun_undo_all
