use Rattle.std.proofs.Common.{◌∙◌, ◌++◌, ◌∷◌, [], ap, arith}
use Rattle.machine_model.specs.declared.kept.Kept.{Kept}
use Rattle.process_core.proofs.NumberedPieces.{hand_behind, no_hand, no_hand_behind}
use Rattle.process_core.proofs.handing.next_number.Goals as goal

pub overflow_add-result : goal.overflow_add-result
overflow_add-result c =
    let numbered = hand_behind c.args.kept.now c.events.rest.now c.in-Some.front.now _ _ _ _ c.requires.numbered c.events.invariant (c.in-Some.ensures.cases.0 ∙ ap (λ (k : Kept). c.in-Some.front.now ++ k ∷ []) c.in-Hand.is) in
    let few = c.requires.few in
    omega arith

pub returns-in-Hand : goal.returns-in-Hand
returns-in-Hand c =
    let numbered = hand_behind c.args.kept.now c.events.rest.now c.in-Some.front.now _ _ _ _ c.requires.numbered c.events.invariant (c.in-Some.ensures.cases.0 ∙ ap (λ (k : Kept). c.in-Some.front.now ++ k ∷ []) c.in-Hand.is) in
    omega arith

pub events-preserved : goal.events-preserved
events-preserved c = no_hand_behind c.args.kept.now c.events.rest.now c.in-Some.front.now c.in-Some.last.now c.events.invariant c.in-Some.ensures.cases.0 (no_hand c.in-Some.last.now c.in_default-last.not-Hand)
