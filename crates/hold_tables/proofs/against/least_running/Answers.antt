use Rattle.std.proofs.Common.{List, sym, ap, ◌∙◌, subst, Option}
use Rattle.std.specs.Option.{option_to_list}
use Rattle.std.specs.Prelude.{filter, flat_map}
use Rattle.process_tree.specs.declared.entry.Entry.{Entry}
use Rattle.process_tree.specs.Order.{Each}
use Rattle.hold_tables.specs.Tables.{OpenProcess, running_of}
use Rattle.hold_tables.specs.Kept.{IsKnownRunning}
use Rattle.hold_tables.specs.Reading.{access_sought, is_against, least_step}
use Rattle.hold_tables.proofs.Least.{each_front, rows_push}
use Rattle.hold_tables.proofs.against.least_running.Goals as goal

pub rows-preserved : goal.rows-preserved
rows-preserved c =
    let test = is_against c.args.c.now c.args.sought.process (access_sought c.args.sought) in
    let front = c.in-Some.front.now in
    let last = c.in-Some.last.now in
    let split = c.in-Some.ensures.cases.0 in
    let known = each_front (λ (r : OpenProcess). IsKnownRunning c.args.c.now r.running) front last (subst (λ (xs : List OpenProcess). Each (λ (r : OpenProcess). IsKnownRunning c.args.c.now r.running) xs) split c.rows.invariant.0) in
    (known.0, ap (λ o. least_step o (filter test (flat_map running_of front))) (c.least_with_running-least.ensures ∙ ap (λ (o : Option Entry). least_step c.rows.least (filter test (option_to_list o))) c.running.ensures) ∙ sym (rows_push test running_of c.rows.least front last) ∙ ap (λ (xs : List OpenProcess). least_step c.rows.least (filter test (flat_map running_of xs))) (sym split) ∙ c.rows.invariant.1)

pub least_with_running-least-requires-clause-known : goal.least_with_running-least-requires-clause-known
least_with_running-least-requires-clause-known c =
    subst (IsKnownRunning c.args.c.now) (sym c.running.ensures)
    (each_front (λ (r : OpenProcess). IsKnownRunning c.args.c.now r.running) c.in-Some.front.now c.in-Some.last.now (subst (λ (xs : List OpenProcess). Each (λ (r : OpenProcess). IsKnownRunning c.args.c.now r.running) xs) c.in-Some.ensures.cases.0 c.rows.invariant.0)).1
