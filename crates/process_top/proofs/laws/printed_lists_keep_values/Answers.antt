use Rattle.process_top.proofs.ListedValues.{list_of_values}
use Rattle.process_top.proofs.laws.printed_lists_keep_values.Goals as goal

pub returns : goal.returns
returns c = list_of_values c.serial_lists_keep_values.ensures.completed c.order_is_of_real_time.ensures
