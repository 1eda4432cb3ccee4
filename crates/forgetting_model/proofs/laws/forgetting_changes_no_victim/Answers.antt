use Rattle.forgetting_model.proofs.MomentLaws.{forgetting_changes_no_victim}
use Rattle.forgetting_model.proofs.laws.forgetting_changes_no_victim.Goals as goal

pub returns : goal.returns
returns c = forgetting_changes_no_victim
