use Rattle.schedule_model.proofs.FewActs.{acts-few}
use Rattle.schedule_model.proofs.laws.acts_are_few.Goals as goal

pub returns : goal.returns
returns c = acts-few
