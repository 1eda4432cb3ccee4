use Rattle.schedule_model.proofs.PlannedShop.{shop-is_planned}
use Rattle.schedule_model.proofs.laws.the_shop_is_planned.Goals as goal

pub returns : goal.returns
returns c = shop-is_planned
