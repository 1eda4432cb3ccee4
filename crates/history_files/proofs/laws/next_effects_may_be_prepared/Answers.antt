use Rattle.history_files.proofs.MayBePrepared.{next_effects_may_be_prepared}
use Rattle.history_files.proofs.laws.next_effects_may_be_prepared.Goals as goal

pub returns : goal.returns
returns c = next_effects_may_be_prepared
