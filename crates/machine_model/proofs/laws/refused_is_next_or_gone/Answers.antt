use Rattle.machine_model.proofs.OneCounter.{refused_is_next_or_gone}
use Rattle.machine_model.proofs.laws.refused_is_next_or_gone.Goals as goal

pub returns : goal.returns
returns c = refused_is_next_or_gone
