use Rattle.std.proofs.Common.{rules, tests, sym, subst}
use Rattle.std.proofs.lemmas.Iterator.{YieldsList-from_slice}
use Rattle.std.proofs.lemmas.Iterator.Adapters.{serves_from_places}
use Rattle.process_tree.specs.Conflicts.{operations_in}
use Rattle.commute_table.specs.Document.{IsPairOf}
use Rattle.commute_table.proofs.PairWalks.{Each-at}
use Rattle.commute_table.proofs.pairs.all_stand.Goals as goal

pub all-requires-clause-callable : goal.all-requires-clause-callable
all-requires-clause-callable c =
    let are = IsPairOf (operations_in c.args.conflicts.now) in
    serves_from_places (YieldsList-from_slice c.args.pairs.now c.iter.ensures.rest) (λ x q k. search (rules, tests))
    (λ x k lt is. let of = subst are (sym is) (Each-at are c.args.pairs.now k x.now lt c.requires.within) in search (rules, tests))
