use Rattle.std.proofs.Common.{List, sym, ap, ◌∙◌, subst}
use Rattle.std.specs.Prelude.{filter, flat_map, map}
use Rattle.process_tree.specs.Order.{Each}
use Rattle.hold_tables.specs.Tables.{OpenProcess, reserved_entry, reserved_of}
use Rattle.hold_tables.specs.Kept.{AreKnown}
use Rattle.hold_tables.specs.Reading.{access_sought, is_against, least_step}
use Rattle.hold_tables.proofs.Least.{each_front, rows_push}
use Rattle.hold_tables.proofs.against.least_reserved.Goals as goal

pub rows-preserved : goal.rows-preserved
rows-preserved c =
    let test = is_against c.args.c.now c.args.sought.process (access_sought c.args.sought) in
    let front = c.in-Some.front.now in
    let last = c.in-Some.last.now in
    let split = c.in-Some.ensures.cases.0 in
    let known = each_front (λ (r : OpenProcess). AreKnown c.args.c.now r.reserved) front last (subst (λ (xs : List OpenProcess). Each (λ (r : OpenProcess). AreKnown c.args.c.now r.reserved) xs) split c.rows.invariant.0) in
    (known.0, ap (λ o. least_step o (filter test (flat_map reserved_of front))) (c.least_of_steps-least.ensures ∙ ap (λ i. least_step c.rows.least (filter test (map (reserved_entry i) c.reserved.result.now))) c.process.ensures ∙ ap (λ ps. least_step c.rows.least (filter test (map (reserved_entry last.process) ps))) c.reserved.ensures) ∙ sym (rows_push test reserved_of c.rows.least front last) ∙ ap (λ (xs : List OpenProcess). least_step c.rows.least (filter test (flat_map reserved_of xs))) (sym split) ∙ c.rows.invariant.1)
