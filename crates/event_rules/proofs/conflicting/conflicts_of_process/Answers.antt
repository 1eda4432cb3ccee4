use Rattle.std.proofs.Common.{rules}
use Rattle.std.proofs.lemmas.Iterator.{YieldsList-from_slice}
use Rattle.std.proofs.lemmas.Iterator.Adapters.{serves_from_places}
use Rattle.schedule_rules.proofs.ListTests.{each_at}
use Rattle.event_rules.proofs.conflicting.conflicts_of_process.Goals as goal

pub any-requires-clause-callable : goal.any-requires-clause-callable
any-requires-clause-callable c =
    serves_from_places (YieldsList-from_slice c.args.others.now (search rules)) (λ x q r. search rules)
    (λ x k less is. search (rules, each_at _ _ c.requires.others x.now k less is))
