use Rattle.std.proofs.Common.{Bool, length, Option, Some, ℕ, sym, ◌∙◌, ap, if◌then◌else◌}
use Rattle.std.proofs.lemmas.Bool.{eq-eqb, ne_eqb}
use Rattle.hold_tables.specs.Places.{last_place}
use Rattle.hold_tables.proofs.Places.{last_place-push}
use Rattle.hold_tables.proofs.looking.last_place.Goals as goal

pub returns-then-last-process : goal.returns-then-last-process
returns-then-last-process c =
    let i = c.args.process in
    let front = c.in-Some.front.now in
    let last = c.in-Some.last.now in
    let pick : Bool → Option ℕ = λ b. if b then Some (length front) else last_place i front in
    ap pick (sym (eq-eqb _ _ c.if-last-process.true)) ∙ sym (last_place-push i front last) ∙ ap (last_place i) (sym c.in-Some.ensures.cases.0) ∙ c.places.invariant

pub places-preserved : goal.places-preserved
places-preserved c =
    let i = c.args.process in
    let front = c.in-Some.front.now in
    let last = c.in-Some.last.now in
    let pick : Bool → Option ℕ = λ b. if b then Some (length front) else last_place i front in
    ap pick (sym (ne_eqb _ _ c.if-last-process.false)) ∙ sym (last_place-push i front last) ∙ ap (last_place i) (sym c.in-Some.ensures.cases.0) ∙ c.places.invariant
