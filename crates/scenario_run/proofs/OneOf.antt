-- Plans that are among others.
use Rattle.std.proofs.Common.{List, ◌∷◌, ◌++◌, refl}
use Rattle.std.proofs.lemmas.List.Elements.{Contains-append_right}
use Rattle.process_tree.specs.Form.{AreEqualPlans}
use Rattle.process_tree.specs.declared.plan.Plan.{Plan}
use Rattle.machine_model.proofs.OpenHoldings.{head_contained}
use Rattle.engine_calls.specs.Acknowledged.{IsOneOf}

-- a plan is equal to itself,
pub equal_plan : (p : Plan) → AreEqualPlans p p
equal_plan p = record { name = refl; tree = refl; says = refl; ops = refl }

-- and so is one of those among which it stands
pub stands_among : (before behind : List Plan) (p : Plan) → IsOneOf (before ++ p ∷ behind) p
stands_among before behind p = (p, Contains-append_right before (p ∷ behind) p (head_contained p behind), equal_plan p)
