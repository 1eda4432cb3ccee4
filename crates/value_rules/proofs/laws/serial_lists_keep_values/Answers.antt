use Rattle.value_rules.proofs.ValueLaws.{value-law, value-law_of_completed}
use Rattle.value_rules.proofs.laws.serial_lists_keep_values.Goals as goal

pub returns-clause-all_ended : goal.returns-clause-all_ended
returns-clause-all_ended c = value-law

pub returns-clause-completed : goal.returns-clause-completed
returns-clause-completed c = value-law_of_completed
