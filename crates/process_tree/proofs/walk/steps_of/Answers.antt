use Rattle.std.proofs.Common.{sym, ◌∙◌, ap, ◌++◌, ◌∷◌, []}
use Rattle.std.proofs.lemmas.List.{map-append}
use Rattle.std.proofs.lemmas.Option.{slice_get_within, get_or_from_slice_get}
use Rattle.process_tree.specs.Blocks.{outline}
use Rattle.process_tree.proofs.GoodSteps.{now, taken_next}
use Rattle.process_tree.proofs.walk.steps_of.Goals as goal

pub loop-place-preserved : goal.loop-place-preserved
loop-place-preserved c =
    let steps = (outline c.args.root.now).steps in
    let within = slice_get_within steps c.loop-place.place c.in-Ok.step.now c.in-Ok.ensures.found in
    let next = taken_next steps c.loop-place.place c.in-Ok.step.now within (get_or_from_slice_get steps c.loop-place.place c.in-Ok.step.now c.in-Ok.step.now c.in-Ok.ensures.found) in
    ap now c.in_ok-push-in-Ok.ensures.items ∙ map-append (λ s. s.now) c.loop-place.steps.items (c.in-Ok.step ∷ []) ∙ ap (λ xs. xs ++ c.in-Ok.step.now ∷ []) c.loop-place.invariant ∙ sym next
