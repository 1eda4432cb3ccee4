use Rattle.std.proofs.Common.{append_assoc}
use Rattle.command_refusals.proofs.faults.FileFaultDisplay.fmt.Goals as goal

pub returns-in-BadBook-clause-writes : goal.returns-in-BadBook-clause-writes
returns-in-BadBook-clause-writes g c = λ plain ok. rw c.in-BadBook.is (simp append_assoc (c.write-in-BadBook.ensures.writes plain ok))
