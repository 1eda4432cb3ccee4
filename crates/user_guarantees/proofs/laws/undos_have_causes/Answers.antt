use Rattle.user_guarantees.proofs.PreferredWay.{undos_have_causes}
use Rattle.user_guarantees.proofs.laws.undos_have_causes.Goals as goal

pub returns : goal.returns
returns c = undos_have_causes
