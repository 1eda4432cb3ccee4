use Rattle.machine_model.proofs.OpenRuns.{open_holdings_are_enough}
use Rattle.machine_model.proofs.laws.open_holdings_are_enough.Goals as goal

pub returns : goal.returns
returns c = open_holdings_are_enough
