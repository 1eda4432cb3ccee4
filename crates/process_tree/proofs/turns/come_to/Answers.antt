use Rattle.std.proofs.Common.{◌++◌, ◌∷◌, [], ◌∙◌, refl, sym, ap, subst}
use Rattle.process_tree.specs.Shape.{shape_of, can_be_refused}
use Rattle.process_tree.specs.Stands.{IsNext}
use Rattle.process_tree.proofs.InTurn.{next_goes, after_next, step_within, next_left, comes_on}
use Rattle.process_tree.proofs.turns.come_to.Goals as goal

pub kind_of-requires : goal.kind_of-requires
kind_of-requires c =
    let on = next_goes (shape_of c.args.tree.now) c.loop-at.done.items c.loop-at.at c.in-Step.step c.loop-at.invariant.next c.in-Step.is in
    step_within c.args.tree.now c.loop-at.done.items c.in-Step.step c.requires.good on

pub loop-at-smaller : goal.loop-at-smaller
loop-at-smaller c =
    let root = c.args.tree.now in
    let done = c.loop-at.done.items in
    let step = c.in-Step.step in
    let on = next_goes (shape_of root) done c.loop-at.at step c.loop-at.invariant.next c.in-Step.is in
    let next = subst (IsNext (shape_of root) (done ++ step ∷ [])) (sym c.after-at.ensures.place) (after_next root done step c.requires.good on) in
    next_left root done (done ++ step ∷ []) step c.loop-at.at c.after-at.result c.requires.good c.in-Step.is on refl next

pub loop-at-preserved : goal.loop-at-preserved
loop-at-preserved c =
    let root = c.args.tree.now in
    let done = c.loop-at.done.items in
    let step = c.in-Step.step in
    let on = next_goes (shape_of root) done c.loop-at.at step c.loop-at.invariant.next c.in-Step.is in
    let next = subst (IsNext (shape_of root) (done ++ step ∷ [])) (sym c.after-at.ensures.place) (after_next root done step c.requires.good on) in
    let kind = sym (c.can_be_refused.ensures ∙ ap can_be_refused c.kind_of.ensures) ∙ c.if-can_be_refused.false in
    record {
      comes = comes_on root done c.push.new.self.items step c.loop-at.at c.after-at.result c.requires.good c.in-Step.is on kind c.in_ok-push.ensures.items c.after-at.ensures.place ∙ c.loop-at.invariant.comes;
      next = subst (λ v. IsNext (shape_of root) v c.after-at.result) (sym c.in_ok-push.ensures.items) next;
    }
