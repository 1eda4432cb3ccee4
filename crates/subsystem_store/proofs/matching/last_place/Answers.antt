use Rattle.std.proofs.Common.{Bool, length, Option, Some, ℕ, sym, ◌∙◌, ap, if◌then◌else◌}
use Rattle.subsystem_store.specs.Matching.{last_place}
use Rattle.subsystem_store.proofs.Places.{last_place-push}
use Rattle.subsystem_store.proofs.matching.last_place.Goals as goal

pub returns-then-is_of : goal.returns-then-is_of
returns-then-is_of c =
    let undo = c.args.undo.now in
    let front = c.in-Some.front.now in
    let last = c.in-Some.last.now in
    let pick : Bool → Option ℕ = λ b. if b then Some (length front) else last_place undo front in
    ap pick (sym c.if-is_of.true ∙ c.is_of.ensures) ∙ sym (last_place-push undo front last) ∙ ap (last_place undo) (sym c.in-Some.ensures.cases.0) ∙ c.places.invariant

pub places-preserved : goal.places-preserved
places-preserved c =
    let undo = c.args.undo.now in
    let front = c.in-Some.front.now in
    let last = c.in-Some.last.now in
    let pick : Bool → Option ℕ = λ b. if b then Some (length front) else last_place undo front in
    ap pick (sym c.if-is_of.false ∙ c.is_of.ensures) ∙ sym (last_place-push undo front last) ∙ ap (last_place undo) (sym c.in-Some.ensures.cases.0) ∙ c.places.invariant
