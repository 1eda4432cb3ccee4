use Rattle.forgetting_model.proofs.GroupsAlike.{forgetting_changes_no_flush}
use Rattle.forgetting_model.proofs.laws.forgetting_changes_no_flush.Goals as goal

pub returns : goal.returns
returns c = forgetting_changes_no_flush
