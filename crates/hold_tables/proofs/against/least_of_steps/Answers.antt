use Rattle.std.proofs.Common.{ℕ, List, sym, ap, ◌∙◌, subst}
use Rattle.std.specs.Prelude.{filter, map}
use Rattle.process_tree.specs.Order.{Each}
use Rattle.hold_tables.specs.Tables.{reserved_entry}
use Rattle.hold_tables.specs.Kept.{IsKnown}
use Rattle.hold_tables.specs.Reading.{access_sought, is_against, least_step}
use Rattle.hold_tables.proofs.Least.{each_front, steps_push}
use Rattle.hold_tables.proofs.against.least_of_steps.Goals as goal

pub steps-preserved : goal.steps-preserved
steps-preserved c =
    let test = is_against c.args.c.now c.args.sought.process (access_sought c.args.sought) in
    let front = c.in-Some.front.now in
    let last = c.in-Some.last.now in
    let split = c.in-Some.ensures.cases.0 in
    let known = each_front (λ step. IsKnown c.args.c.now (reserved_entry c.args.process step)) front last (subst (λ (xs : List (ℕ × ℕ × ℕ)). Each (λ step. IsKnown c.args.c.now (reserved_entry c.args.process step)) xs) split c.steps.invariant.0) in
    (known.0, ap (λ o. least_step o (filter test (map (reserved_entry c.args.process) front))) (c.least_with-least.ensures) ∙ sym (steps_push test c.args.process c.steps.least front last) ∙ ap (λ (xs : List (ℕ × ℕ × ℕ)). least_step c.steps.least (filter test (map (reserved_entry c.args.process) xs))) (sym split) ∙ c.steps.invariant.1)

pub least_with-least-requires-clause-known : goal.least_with-least-requires-clause-known
least_with-least-requires-clause-known c =
    (each_front (λ step. IsKnown c.args.c.now (reserved_entry c.args.process step)) c.in-Some.front.now c.in-Some.last.now (subst (λ (xs : List (ℕ × ℕ × ℕ)). Each (λ step. IsKnown c.args.c.now (reserved_entry c.args.process step)) xs) c.in-Some.ensures.cases.0 c.steps.invariant.0)).1
