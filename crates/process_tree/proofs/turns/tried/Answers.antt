use Rattle.std.proofs.Common.{◌++◌, ◌∷◌, [], ◌∙◌, sym, ap, subst}
use Rattle.process_tree.specs.Shape.{shape_of}
use Rattle.process_tree.specs.Stands.{arrive_at, IsNext}
use Rattle.process_tree.specs.Play.{asks, answered}
use Rattle.process_tree.proofs.GoesBack.{stands_there}
use Rattle.process_tree.proofs.InTurn.{step_within, after_next, goes_after}
use Rattle.process_tree.proofs.turns.tried.Goals as goal

pub after-requires : goal.after-requires
after-requires c = step_within c.args.tree.now c.args.done.now.items c.args.step c.requires.good c.requires.asked

pub come_to-requires-clause-next : goal.come_to-requires-clause-next
come_to-requires-clause-next c =
    let root = c.args.tree.now in
    let done = c.args.done.now.items in
    let next = subst (IsNext (shape_of root) (done ++ c.args.step ∷ [])) (sym c.after.ensures.place) (after_next root done c.args.step c.requires.good c.requires.asked) in
    subst (λ v. IsNext (shape_of root) v c.after.result) (sym c.in_ok-push-in-Done.ensures.items) next

pub returns-in_ok-push-in-Done-clause-stand : goal.returns-in_ok-push-in-Done-clause-stand
returns-in_ok-push-in-Done-clause-stand c =
    let root = c.args.tree.now in
    let t = shape_of root in
    let done = c.args.done.now.items in
    let stands =
    ap (λ v. arrive_at t v c.after.result) c.in_ok-push-in-Done.ensures.items
    ∙ ap (arrive_at t (done ++ c.args.step ∷ [])) c.after.ensures.place
    ∙ goes_after root done c.args.step c.requires.good c.requires.asked in
    stands_there c.come_to.new.done.items c.come_to.result _ _ c.come_to.ensures.stand (stands ∙ sym (ap (answered t (asks done c.args.step)) c.in-Done.is))
