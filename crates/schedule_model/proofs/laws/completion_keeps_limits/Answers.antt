use Rattle.schedule_model.proofs.WithinLimits.{completion-keeps_limits, completed-stands_within}
use Rattle.schedule_model.proofs.laws.completion_keeps_limits.Goals as goal

pub returns-clause-judged : goal.returns-clause-judged
returns-clause-judged c = completion-keeps_limits

pub returns-clause-counted : goal.returns-clause-counted
returns-clause-counted c = completed-stands_within
