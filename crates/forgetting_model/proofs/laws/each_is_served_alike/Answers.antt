use Rattle.forgetting_model.proofs.Served.{each_is_served_alike}
use Rattle.forgetting_model.proofs.laws.each_is_served_alike.Goals as goal

pub returns : goal.returns
returns c = each_is_served_alike
