use Rattle.std.proofs.Common.{[]}
use Rattle.process_journal.proofs.GoodPlans.{no_plans}
use Rattle.process_journal.proofs.replay.Replay.new.Goals as goal

pub returns-clause-judged : goal.returns-clause-judged
returns-clause-judged c = λ table. c.new-legality.ensures table [] (no_plans table)
