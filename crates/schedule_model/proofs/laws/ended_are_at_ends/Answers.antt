use Rattle.schedule_model.proofs.CompletionLaws.{ended-are_at_ends}
use Rattle.schedule_model.proofs.laws.ended_are_at_ends.Goals as goal

pub returns : goal.returns
returns c = ended-are_at_ends
