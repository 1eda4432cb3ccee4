use Rattle.std.proofs.Common.{List, sym, ap, ◌∙◌, subst}
use Rattle.std.specs.Prelude.{filter}
use Rattle.process_tree.specs.declared.entry.Entry.{Entry}
use Rattle.process_tree.specs.Order.{Each}
use Rattle.hold_tables.specs.Kept.{IsKnown}
use Rattle.hold_tables.specs.Reading.{access_sought, is_against, least_step}
use Rattle.hold_tables.proofs.Least.{each_front, least_push}
use Rattle.hold_tables.proofs.against.least_of.Goals as goal

pub entries-preserved : goal.entries-preserved
entries-preserved c =
    let test = is_against c.args.c.now c.args.sought.process (access_sought c.args.sought) in
    let front = c.in-Some.front.now in
    let last = c.in-Some.last.now in
    let split = c.in-Some.ensures.cases.0 in
    let known = each_front (IsKnown c.args.c.now) front last (subst (λ (xs : List Entry). Each (IsKnown c.args.c.now) xs) split c.entries.invariant.0) in
    (known.0, ap (λ o. least_step o (filter test (front))) (c.least_with-least.ensures) ∙ sym (least_push test c.entries.least front last) ∙ ap (λ (xs : List Entry). least_step c.entries.least (filter test (xs))) (sym split) ∙ c.entries.invariant.1)

pub least_with-least-requires-clause-known : goal.least_with-least-requires-clause-known
least_with-least-requires-clause-known c =
    (each_front (IsKnown c.args.c.now) c.in-Some.front.now c.in-Some.last.now (subst (λ (xs : List Entry). Each (IsKnown c.args.c.now) xs) c.in-Some.ensures.cases.0 c.entries.invariant.0)).1
