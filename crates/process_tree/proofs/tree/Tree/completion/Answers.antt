use Rattle.std.proofs.Common.{◌≡◌, ℕ, List, ◌++◌, ◌∷◌, [], ◌∙◌, refl, sym, ap, subst, append_assoc}
use Rattle.process_tree.specs.Shape.{shape_of, branch_to, next_steps, greatest, last_after}
use Rattle.process_tree.specs.Recovery.{place_of}
use Rattle.process_tree.specs.Stands.{IsNext}
use Rattle.process_tree.proofs.InTurn.{place_step, greatest_is, greatest_next, step_within, next_left, last_place_on, last_on}
use Rattle.process_tree.proofs.tree.Tree.completion.Goals as goal

pub last_after-place-requires-in-Step : goal.last_after-place-requires-in-Step
last_after-place-requires-in-Step c =
    let t = shape_of c.args.self.now in
    let v = (branch_to t c.args.n ++ c.args.n ∷ []) ++ c.loop-place.places.items in
    let is = place_step (greatest (next_steps t v)) c.in-Step.step (sym c.loop-place.invariant.at ∙ c.in-Step.is) in
    step_within c.args.self.now v c.in-Step.step c.last_after-place.ensures.good (greatest_is (next_steps t v) c.in-Step.step is)

pub loop-place-smaller : goal.loop-place-smaller
loop-place-smaller c =
    let root = c.args.self.now in
    let t = shape_of root in
    let d = c.in-Step.step in
    let v = (branch_to t c.args.n ++ c.args.n ∷ []) ++ c.loop-place.places.items in
    let good = c.last_after-place.ensures.good in
    let is = place_step (greatest (next_steps t v)) d (sym c.loop-place.invariant.at ∙ c.in-Step.is) in
    let next = subst (IsNext t (v ++ d ∷ [])) (sym (c.last_after-place-in-Step.ensures.place ∙ last_place_on root v d good is)) (greatest_next t (v ++ d ∷ [])) in
    next_left root v (v ++ d ∷ []) d c.loop-place.place c.last_after-place-in-Step.result good c.in-Step.is (greatest_is (next_steps t v) d is) refl next

pub loop-place-preserved : goal.loop-place-preserved
loop-place-preserved c =
    let root = c.args.self.now in
    let t = shape_of root in
    let d = c.in-Step.step in
    let b = branch_to t c.args.n ++ c.args.n ∷ [] in
    let places = c.loop-place.places.items in
    let v = b ++ places in
    let good = c.last_after-place.ensures.good in
    let is = place_step (greatest (next_steps t v)) d (sym c.loop-place.invariant.at ∙ c.in-Step.is) in
    let more : b ++ c.push.new.self.items ≡ v ++ d ∷ [] = ap (λ (xs : List ℕ). b ++ xs) c.in_ok-push.ensures.items ∙ sym (append_assoc b places (d ∷ [])) in
    record {
      at = c.last_after-place-in-Step.ensures.place ∙ last_place_on root v d good is ∙ ap (λ u. place_of (greatest (next_steps t u))) (sym more);
      rest =
          ap (λ (xs : List ℕ). xs ++ last_after t (b ++ c.push.new.self.items)) c.in_ok-push.ensures.items
          ∙ ap (λ u. (places ++ d ∷ []) ++ last_after t u) more
          ∙ append_assoc places (d ∷ []) (last_after t (v ++ d ∷ []))
          ∙ ap (λ (xs : List ℕ). places ++ xs) (sym (last_on root v d good is))
          ∙ c.loop-place.invariant.rest;
    }
