use Rattle.process_journal.proofs.OneHistory.{one_history_at_most}
use Rattle.process_journal.proofs.laws.journals_have_one_history.Goals as goal

pub returns : goal.returns
returns c = one_history_at_most
