use Rattle.forgetting_model.proofs.GroupsAlike.{forgetting_changes_no_queue}
use Rattle.forgetting_model.proofs.laws.forgetting_changes_no_queue.Goals as goal

pub returns : goal.returns
returns c = forgetting_changes_no_queue
