use Rattle.forgetting_model.proofs.FinishAlike.{forgetting_changes_no_finish}
use Rattle.forgetting_model.proofs.laws.forgetting_changes_no_finish.Goals as goal

pub returns : goal.returns
returns c = forgetting_changes_no_finish
