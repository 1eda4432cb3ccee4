use Rattle.value_rules.proofs.RealTime.{order-is_of_real_time}
use Rattle.value_rules.proofs.laws.order_is_of_real_time.Goals as goal

pub returns : goal.returns
returns c = order-is_of_real_time
