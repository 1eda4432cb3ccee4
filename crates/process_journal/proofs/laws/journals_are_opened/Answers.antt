use Rattle.process_journal.proofs.NeverRefused.{journals_are_opened}
use Rattle.process_journal.proofs.laws.journals_are_opened.Goals as goal

pub returns : goal.returns
returns c = journals_are_opened
