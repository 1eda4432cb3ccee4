use Rattle.std.proofs.Common.{◌||◌, ◌&&◌, not, List, sym, ◌∙◌, ap}
use Rattle.std.specs.Prelude.{nat_eq}
use Rattle.std.specs.List.{list_any}
use Rattle.process_tree.specs.Entries.{access_of}
use Rattle.process_tree.specs.declared.entry.Entry.{Entry}
use Rattle.process_tree.specs.Conflicts.{do_conflict, operations_in, Access}
use Rattle.history_judging.specs.Conflicting.{access_conflicts}
use Rattle.history_judging.proofs.ByAccess.{any_conflicts-both}
use Rattle.history_judging.proofs.against.any_conflicts.Goals as goal

pub conflicts_among-requires-clause-known : goal.conflicts_among-requires-clause-known
conflicts_among-requires-clause-known c = c.in_ok-accesses.ensures.known (operations_in c.args.c.now) c.requires.steps

pub conflicts_among-requires-2-clause-known : goal.conflicts_among-requires-2-clause-known
conflicts_among-requires-2-clause-known c = c.in_ok-accesses.ensures.known (operations_in c.args.c.now) c.requires.steps

pub returns : goal.returns
returns c =
    let table = do_conflict c.args.c.now in
    let among : List Access → List Entry → _ = λ accesses es. list_any (λ (x : Entry). not (nat_eq c.args.process x.process) && access_conflicts table accesses (access_of x)) es in
    any_conflicts-both table c.args.process c.args.steps.now c.in_ok-accesses.accesses c.args.net.now c.args.owed.now _ c.requires.own (c.in_ok-accesses.ensures.conflicts c.args.c.now)
    (c.conflicts_among-2.ensures
    ∙ ap (λ t. t || among c.in_ok-accesses.accesses c.args.owed.now) (sym (sym c.conflicts_among.ensures ∙ c.if-conflicts_among.false)))

pub returns-then-conflicts_among : goal.returns-then-conflicts_among
returns-then-conflicts_among c =
    let table = do_conflict c.args.c.now in
    let among : List Access → List Entry → _ = λ accesses es. list_any (λ (x : Entry). not (nat_eq c.args.process x.process) && access_conflicts table accesses (access_of x)) es in
    any_conflicts-both table c.args.process c.args.steps.now c.in_ok-accesses.accesses c.args.net.now c.args.owed.now _ c.requires.own (c.in_ok-accesses.ensures.conflicts c.args.c.now)
    (ap (λ t. t || among c.in_ok-accesses.accesses c.args.owed.now) (sym (sym c.conflicts_among.ensures ∙ c.if-conflicts_among.true)))
