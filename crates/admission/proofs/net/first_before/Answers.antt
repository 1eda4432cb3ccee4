use Rattle.std.proofs.Common.{drop, take, sym, ap, ◌∙◌, arith}
use Rattle.process_tree.specs.Conflicts.{do_conflict}
use Rattle.admission.specs.Least.{least_on, lesser_of}
use Rattle.admission.proofs.Behind.{none_less}
use Rattle.admission.proofs.Places.{part_none}
use Rattle.admission.proofs.net.first_before.Goals as goal

pub returns-in-Some-clause-passed : goal.returns-in-Some-clause-passed
returns-in-Some-clause-passed c rule own =
    let t = c.args.holds.now in
    let part = drop c.args.from (take c.first_up_to.result t.net) in
    ap (lesser_of (least_on (do_conflict t.conflicts) rule own part)) c.in-Some.is
    ∙ none_less (do_conflict t.conflicts) rule own c.in-Some.block part c.first_up_to.ensures.passed ∙ sym c.in-Some.is

pub returns-in-None-clause-passed : goal.returns-in-None-clause-passed
returns-in-None-clause-passed c rule own =
    let t = c.args.holds.now in
    let few = c.requires.places in
    ap (λ es. lesser_of (least_on (do_conflict t.conflicts) rule own es) c.args.found) (part_none t.net c.args.from (omega arith))
