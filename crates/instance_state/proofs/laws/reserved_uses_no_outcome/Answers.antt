use Rattle.instance_state.proofs.ProcessLaws.{reserved_uses_no_outcome}
use Rattle.instance_state.proofs.laws.reserved_uses_no_outcome.Goals as goal

pub returns : goal.returns
returns c = reserved_uses_no_outcome
