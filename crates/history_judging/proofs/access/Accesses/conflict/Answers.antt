use Rattle.std.proofs.Common.{◌<◌, not, sym, ◌∙◌, ap, subst}
use Rattle.std.specs.List.{list_any}
use Rattle.process_tree.specs.Entries.{access_of}
use Rattle.process_tree.specs.Conflicts.{do_conflict, mode_of, operations_in}
use Rattle.process_tree.specs.Order.{Each}
use Rattle.history_judging.specs.Conflicting.{access_conflicts, is_always, is_never}
use Rattle.history_judging.proofs.OperationsOf.{always_met, never_met, ops_known}
use Rattle.history_judging.proofs.access.Accesses.conflict.Goals as goal

pub always_conflicts-requires-clause-known : goal.always_conflicts-requires-clause-known
always_conflicts-requires-clause-known c =
    let n = operations_in c.args.c.now in
    subst (Each (λ o. o < n)) (sym c.deref.ensures.value)
    (ops_known n c.self.inside.ops.items c.self.inside.listed.items c.self.invariant (subst (Each (λ a. a.op < n)) (sym c.self.view_is) c.requires.known))

pub may_conflict-requires-clause-known : goal.may_conflict-requires-clause-known
may_conflict-requires-clause-known c =
    let n = operations_in c.args.c.now in
    subst (Each (λ o. o < n)) (sym c.deref-2.ensures.value)
    (ops_known n c.self.inside.ops.items c.self.inside.listed.items c.self.invariant (subst (Each (λ a. a.op < n)) (sym c.self.view_is) c.requires.known))

pub returns-then-always_conflicts : goal.returns-then-always_conflicts
returns-then-always_conflicts c =
    let t = c.args.c.now in
    let b = access_of c.args.entry.now in
    sym (ap (λ accesses. access_conflicts (do_conflict t) accesses b) (sym c.self.view_is)
    ∙ always_met t c.self.inside.ops.items c.self.inside.listed.items b c.self.invariant
    (ap (list_any (λ o. is_always (mode_of t o b.op))) (sym c.deref.ensures.value) ∙ (sym c.always_conflicts.ensures ∙ c.if-always_conflicts.true)))

pub returns-else-may_conflict : goal.returns-else-may_conflict
returns-else-may_conflict c =
    let t = c.args.c.now in
    let b = access_of c.args.entry.now in
    c.if-may_conflict.false
    ∙ sym (ap (λ accesses. access_conflicts (do_conflict t) accesses b) (sym c.self.view_is)
    ∙ never_met t c.self.inside.ops.items c.self.inside.listed.items b c.self.invariant
    (ap (list_any (λ o. not (is_never (mode_of t o b.op)))) (sym c.deref-2.ensures.value) ∙ (sym c.may_conflict.ensures ∙ c.if-may_conflict.false)))
