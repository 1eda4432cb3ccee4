use Rattle.forgetting_model.proofs.WaysOn.{each_way_on_is_met}
use Rattle.forgetting_model.proofs.laws.each_way_on_is_met.Goals as goal

pub returns : goal.returns
returns c = each_way_on_is_met
