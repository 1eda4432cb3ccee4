use Rattle.schedule_model.proofs.ReductionLaws.{reduction-law}
use Rattle.schedule_model.proofs.laws.reducible_histories_reduce.Goals as goal

pub returns : goal.returns
returns c = reduction-law
