use Rattle.history_judging.proofs.MorePlans.{judged-more}
use Rattle.history_judging.proofs.laws.more_plans_judge_alike.Goals as goal

pub returns : goal.returns
returns c = judged-more
