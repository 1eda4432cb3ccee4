-- The histories of the tests have plans with operations of their catalogs.
use Rattle.std.proofs.Common.{inl, inr, List, [], ◌∷◌, refl, subst, ltb}
use Rattle.std.specs.Bool.{IsTrue}
use Rattle.std.specs.List.{Contains, list_all}
use Rattle.process_tree.specs.declared.plan.Plan.{Plan}
use Rattle.schedule_model.specs.Laws.{IsGoodPlan, IsPlanned}
use Rattle.schedule_model.specs.PlannedExample.{purchase_plan, sale_plan}
use Rattle.schedule_model.proofs.Members.{Among, among-from_contains, contains-from_among}
use Rattle.schedule_model.proofs.PlannedShop.{shop-is_planned}
use Rattle.process_report.specs.Examples.{both_undone}
use Rattle.process_report.specs.KeyedExamples.{taken_at_a_till, taken_and_shipped, two_goods}

-- the purchase and the sale that are both undone
pub both_undone-is_planned : IsPlanned 5 (purchase_plan ∷ sale_plan ∷ []) both_undone.events
both_undone-is_planned = record { good = shop-is_planned.good; one_each = refl; known = shop-is_planned.known }

good-purchase : IsGoodPlan purchase_plan
good-purchase = shop-is_planned.good purchase_plan (contains-from_among purchase_plan (purchase_plan ∷ sale_plan ∷ []) (inl refl))

-- they have the kinds of steps that a purchase has
good-taking : IsGoodPlan taken_at_a_till
good-taking = record { tree = refl; well_formed = good-purchase.well_formed; operations = refl }

good-shipping : IsGoodPlan (taken_and_shipped 9)
good-shipping = record { tree = refl; well_formed = good-purchase.well_formed; operations = refl }

of-both : (Q : Plan → Type 0) (a b : Plan) → Q a → Q b → (p : Plan) → Contains (a ∷ b ∷ []) p → Q p
of-both Q a b one other p is = by_place (among-from_contains p (a ∷ b ∷ []) is)
  where
    by_place : Among p (a ∷ b ∷ []) → Q p
    by_place (inl first) = subst Q first one
    by_place (inr (inl second)) = subst Q second other
    by_place (inr (inr none)) = absurd none

-- goods 7 and 9, taken side by side
pub two_goods-is_planned : IsPlanned 6 two_goods.plans two_goods.events
two_goods-is_planned = record {
  good = of-both IsGoodPlan taken_at_a_till (taken_and_shipped 9) good-taking good-shipping;
  one_each = refl;
  known = of-both (λ p. IsTrue (list_all (λ a. ltb a 6) p.ops)) taken_at_a_till (taken_and_shipped 9) refl refl;
}
