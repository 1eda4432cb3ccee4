use Rattle.forgetting_model.proofs.RepliesAlike.{forgetting_changes_no_answer}
use Rattle.forgetting_model.proofs.laws.forgetting_changes_no_answer.Goals as goal

pub returns : goal.returns
returns c = forgetting_changes_no_answer
