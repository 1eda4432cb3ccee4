use Rattle.machine_model.proofs.WithinTries.{refusals_are_within_tries}
use Rattle.machine_model.proofs.laws.refusals_are_within_tries.Goals as goal

pub returns : goal.returns
returns c = refusals_are_within_tries
