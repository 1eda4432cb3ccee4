use Rattle.machine_model.proofs.OpenCascade.{open_holdings_drag_alike}
use Rattle.machine_model.proofs.laws.open_holdings_drag_alike.Goals as goal

pub returns : goal.returns
returns c = open_holdings_drag_alike
