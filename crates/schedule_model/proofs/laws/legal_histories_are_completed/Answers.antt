use Rattle.schedule_model.proofs.StandingLaws.{completion-law}
use Rattle.schedule_model.proofs.laws.legal_histories_are_completed.Goals as goal

pub returns : goal.returns
returns c = completion-law
