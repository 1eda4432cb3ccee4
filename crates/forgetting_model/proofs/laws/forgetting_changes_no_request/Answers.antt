use Rattle.forgetting_model.proofs.NextAlike.{forgetting_changes_no_request}
use Rattle.forgetting_model.proofs.laws.forgetting_changes_no_request.Goals as goal

pub returns : goal.returns
returns c = forgetting_changes_no_request
