-- The purchase and the sale can't get stuck, so a history of them has all that a call asks.
use Rattle.std.proofs.Common.{◌≡◌, ◌⊎◌, inl, inr, ⊎_elim, ℕ, zero, suc, false, ltb, ◌||◌, List, [], ◌∷◌, length, sym, refl, ap, ◌∙◌, subst, arith}
use Rattle.std.specs.Bool.{IsTrue}
use Rattle.std.specs.List.{Contains, list_all}
use Rattle.std.proofs.lemmas.Bool.{and_left, false≢true, ne_eqb}
use Rattle.process_tree.specs.declared.step.StepKind.TheVariants.{C, P}
use Rattle.process_tree.specs.declared.play.Outcome.{Outcome}
use Rattle.process_tree.specs.declared.play.Outcome.TheVariants.{Done, Refused}
use Rattle.process_tree.specs.declared.play.Played.{Played}
use Rattle.process_tree.specs.declared.play.Played.TheVariants.{Path, Nothing, Stuck, Unfinished}
use Rattle.process_tree.specs.declared.plan.Plan.{Plan}
use Rattle.process_tree.specs.Shape.{Shape, branch_to, goes_on_to}
use Rattle.process_tree.specs.Play.{Stand, ended, end_of, stand_from, play}
use Rattle.process_tree.specs.Termination.{NeverStuck, is_later_way, ways_before, IsWellFormed}
use Rattle.schedule_model.specs.PlannedExample.{purchase_plan, sale_plan, ShopIsPlanned}
use Rattle.schedule_model.specs.Laws.{IsGoodPlan}
use Rattle.schedule_model.proofs.Members.{Among, among-from_contains}

-- a compensatable step, and then a pivot
abbrev two : Shape
two = record { kinds = C ∷ P ∷ []; paths = (0 ∷ 1 ∷ []) ∷ [] }

-- a play that has ended stays so
stays_ended : (end : Played) (os : List Outcome) → stand_from two (ended end) os ≡ ended end
stays_ended end [] = refl
stays_ended end (o ∷ os) = stays_ended end os

abbrev ends_as : Stand → Played
ends_as s = end_of s

plays : (os : List Outcome) → (play two os ≡ Unfinished) ⊎ ((play two os ≡ Path (0 ∷ 1 ∷ [])) ⊎ (play two os ≡ Nothing))
plays [] = inl refl
plays (Refused ∷ os) = inr (inr (ap ends_as (stays_ended Nothing os)))
plays (Done ∷ []) = inl refl
plays (Done ∷ Done ∷ os) = inr (inl (ap ends_as (stays_ended (Path (0 ∷ 1 ∷ [])) os)))
plays (Done ∷ Refused ∷ os) = inr (inr (ap ends_as (stays_ended Nothing os)))

never_stuck : NeverStuck two
never_stuck os b stuck =
    ⊎_elim (λ is. let e : Unfinished ≡ Stuck b = sym is ∙ stuck in absurd (cc))
    (⊎_elim (λ is. let e : Path (0 ∷ 1 ∷ []) ≡ Stuck b = sym is ∙ stuck in absurd (cc)) (λ is. let e : Nothing ≡ Stuck b = sym is ∙ stuck in absurd (cc)))
    (plays os)

no_later_way : (d : ℕ) → is_later_way two d ≡ false
no_later_way zero = refl
no_later_way (suc zero) = refl
no_later_way (suc (suc d)) =
    let n = suc (suc d) in
    let away : branch_to two n ≡ [] = rw (ne_eqb n 0 (λ e. omega arith), ne_eqb n 1 (λ e. omega arith)) refl in
    and_left (goes_on_to two (branch_to two n) n) (ltb 0 (length (ways_before two n)))
    (ap (λ w. goes_on_to two w n) away ∙ ap (λ t. t || false) (ne_eqb n 0 (λ e. omega arith)))

well_formed : IsWellFormed two
well_formed = record { never_stuck = never_stuck; reached = λ d later. absurd (false≢true (sym (no_later_way d) ∙ later)) }

good_purchase : IsGoodPlan purchase_plan
good_purchase = record { tree = refl; well_formed = well_formed; operations = refl }

good_sale : IsGoodPlan sale_plan
good_sale = record { tree = refl; well_formed = well_formed; operations = refl }

-- what holds of both plans holds of each
of_both : (Q : Plan → Type 0) → Q purchase_plan → Q sale_plan → (p : Plan) → Contains (purchase_plan ∷ sale_plan ∷ []) p → Q p
of_both Q one other p is = by_place (among-from_contains p (purchase_plan ∷ sale_plan ∷ []) is)
  where
    by_place : Among p (purchase_plan ∷ sale_plan ∷ []) → Q p
    by_place (inl first) = subst Q first one
    by_place (inr (inl second)) = subst Q second other
    by_place (inr (inr none)) = absurd none

pub shop-is_planned : ShopIsPlanned
shop-is_planned = record {
  good = of_both IsGoodPlan good_purchase good_sale;
  one_each = refl;
  known = of_both (λ p. IsTrue (list_all (λ a. ltb a 5) p.ops)) refl refl;
}
