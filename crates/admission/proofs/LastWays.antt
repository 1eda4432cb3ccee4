-- The steps that would be owed, one after another.
use Rattle.std.proofs.Common.{◌≡◌, ℕ, ◌<◌, List, [], ◌∷◌, ◌++◌, length, Option, Some, None, sym, refl, ap, subst, ◌∙◌, arith}
use Rattle.process_tree.specs.declared.block.Block.{Block}
use Rattle.process_tree.specs.declared.plan.Plan.{Plan}
use Rattle.process_tree.specs.declared.play.Place.{Place}
use Rattle.process_tree.specs.declared.play.Place.TheVariants.{Step, End}
use Rattle.process_tree.specs.Blocks.{outline}
use Rattle.process_tree.specs.Making.{tree_fault}
use Rattle.process_tree.specs.Recovery.{last_place_after, place_of}
use Rattle.process_tree.specs.Shape.{branch_to, greatest, next_steps, shape_of, last_after}
use Rattle.process_tree.specs.Stands.{left_from}
use Rattle.process_tree.proofs.InTurn.{goes_up, greatest_is, last_after_none, last_on, step_within}
use Rattle.process_tree.proofs.Onward.{branch_from}
use Rattle.process_tree.proofs.Trees.{tree_laid_out}
use Rattle.machine_model.specs.declared.blocked.Blocked.{Blocked}
use Rattle.admission.specs.Admission.{steps_owed_after}
use Rattle.admission.specs.Least.{least_over, lesser_of}
use Rattle.admission.specs.Parts.{steps_from}
use Rattle.admission.proofs.Order.{thrice}

-- a step there is one of the tree
abbrev pub IsOfTree : Block → Place → Type 0
IsOfTree root End = Unit
IsOfTree root (Step d) = d < length (outline root).steps

-- the steps up to one and it
abbrev up_to : Block → ℕ → List ℕ
up_to root b = branch_to (shape_of root) b ++ b ∷ []

-- what is owed behind a step begins with the place behind it
pub owed_from : (plan : Plan) (b : ℕ) → tree_fault plan.tree ≡ None → steps_owed_after plan b ≡ steps_from plan (last_place_after (shape_of plan.tree) b)
owed_from plan b good = by (greatest (next_steps (shape_of plan.tree) (up_to plan.tree b))) refl
  where
    by : (o : Option ℕ) → greatest (next_steps (shape_of plan.tree) (up_to plan.tree b)) ≡ o
        → last_after (shape_of plan.tree) (up_to plan.tree b) ≡ steps_from plan (place_of (greatest (next_steps (shape_of plan.tree) (up_to plan.tree b))))
    by None is = last_after_none (shape_of plan.tree) (up_to plan.tree b) is ∙ sym (ap (λ o. steps_from plan (place_of o)) is)
    by (Some e) is =
        let t = shape_of plan.tree in
        let u = up_to plan.tree b in
        let laid = tree_laid_out plan.tree good in
        last_on plan.tree u e good is ∙ ap (λ v. e ∷ last_after t (v ++ e ∷ [])) (sym (branch_from t u e laid.in_order laid.rising (greatest_is (next_steps t u) e is)))
        ∙ sym (ap (λ o. steps_from plan (place_of o)) is)

-- the place behind a step is of the tree
pub next_within : (root : Block) (b : ℕ) → tree_fault root ≡ None → IsOfTree root (last_place_after (shape_of root) b)
next_within root b good = by (greatest (next_steps (shape_of root) (up_to root b))) refl
  where
    by : (o : Option ℕ) → greatest (next_steps (shape_of root) (up_to root b)) ≡ o → IsOfTree root (place_of (greatest (next_steps (shape_of root) (up_to root b))))
    by None is = subst (λ o. IsOfTree root (place_of o)) (sym is) tt
    by (Some e) is = subst (λ o. IsOfTree root (place_of o)) (sym is) (step_within root (up_to root b) e good (greatest_is (next_steps (shape_of root) (up_to root b)) e is))

-- fewer steps are left there
pub next_less : (root : Block) (b : ℕ) → tree_fault root ≡ None → b < length (outline root).steps
    → left_from (length (outline root).steps) (last_place_after (shape_of root) b) < left_from (length (outline root).steps) (Step b)
next_less root b good within = by (greatest (next_steps (shape_of root) (up_to root b))) refl
  where
    by : (o : Option ℕ) → greatest (next_steps (shape_of root) (up_to root b)) ≡ o
        → left_from (length (outline root).steps) (place_of (greatest (next_steps (shape_of root) (up_to root b)))) < left_from (length (outline root).steps) (Step b)
    by None is = subst (λ o. left_from (length (outline root).steps) (place_of o) < left_from (length (outline root).steps) (Step b)) (sym is) (omega arith)
    by (Some e) is = subst (λ o. left_from (length (outline root).steps) (place_of o) < left_from (length (outline root).steps) (Step b)) (sym is)
        (let up = goes_up (shape_of root) (branch_to (shape_of root) b) b e (tree_laid_out root good).rising (greatest_is (next_steps (shape_of root) (up_to root b)) e is) in omega arith)

-- one step more is looked at
pub one_owed : (plan : Plan) (f : ℕ → Option Blocked) (d : ℕ) (least : Option Blocked) → tree_fault plan.tree ≡ None
    → lesser_of (lesser_of least (f d)) (least_over f (steps_from plan (last_place_after (shape_of plan.tree) d))) ≡ lesser_of least (least_over f (steps_from plan (Step d)))
one_owed plan f d least good =
    ap (λ ds. lesser_of (lesser_of least (f d)) (least_over f ds)) (sym (owed_from plan d good)) ∙ thrice least (f d) (least_over f (steps_owed_after plan d))
