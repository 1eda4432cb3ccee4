use Rattle.machine_model.proofs.OpenHoldings.{open_holdings_block_alike}
use Rattle.machine_model.proofs.laws.open_holdings_block_alike.Goals as goal

pub returns : goal.returns
returns c = open_holdings_block_alike
