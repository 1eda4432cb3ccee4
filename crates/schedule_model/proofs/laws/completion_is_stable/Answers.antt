use Rattle.schedule_model.proofs.CompletionLaws.{completion-stable}
use Rattle.schedule_model.proofs.laws.completion_is_stable.Goals as goal

pub returns : goal.returns
returns c = completion-stable
