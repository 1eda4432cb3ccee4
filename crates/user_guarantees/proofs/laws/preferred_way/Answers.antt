use Rattle.user_guarantees.proofs.PreferredWay.{preferred_way}
use Rattle.user_guarantees.proofs.laws.preferred_way.Goals as goal

pub returns : goal.returns
returns c = preferred_way
