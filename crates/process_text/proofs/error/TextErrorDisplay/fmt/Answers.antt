use Rattle.std.proofs.Common.{append_assoc}
use Rattle.process_text.proofs.error.TextErrorDisplay.fmt.Goals as goal

pub returns-in-BadText-clause-writes : goal.returns-in-BadText-clause-writes
returns-in-BadText-clause-writes g c = λ plain ok. rw c.in-BadText.is (simp append_assoc (c.write.ensures.writes plain ok))
