use Rattle.process_journal.proofs.GoodPlans.{histories_are_planned}
use Rattle.process_journal.proofs.MadeHistories.{records_make_histories}
use Rattle.process_journal.proofs.Beginnings.{beginning_is_good}
use Rattle.process_journal.proofs.laws.journals_keep_histories.Goals as goal

pub returns : goal.returns
returns c = record { planned = histories_are_planned; made = records_make_histories; beginnings = beginning_is_good }
