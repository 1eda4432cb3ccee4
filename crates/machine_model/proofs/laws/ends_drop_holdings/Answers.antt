use Rattle.machine_model.proofs.OpenRuns.{ends_drop_holdings}
use Rattle.machine_model.proofs.laws.ends_drop_holdings.Goals as goal

pub returns : goal.returns
returns c = ends_drop_holdings
