use Rattle.machine_model.proofs.HoldChanges.{ends_go}
use Rattle.machine_model.proofs.laws.ends_go.Goals as goal

pub returns : goal.returns
returns c = ends_go
