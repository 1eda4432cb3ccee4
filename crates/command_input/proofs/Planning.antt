-- The plans of processes, one after another.
use Rattle.std.proofs.Common.{◌≡◌, List, [], ◌∷◌, ◌++◌, sym, subst, inr, append_assoc, append-nil}
use Rattle.process_tree.specs.declared.plan.Plan.{Plan}
use Rattle.process_tree.specs.declared.tree.Named.{Named}
use Rattle.commute_table.specs.declared.op.Op.{Op}
use Rattle.commute_table.specs.Binding.{IsPlanOf}
use Rattle.command_refusals.specs.declared.refusal.Refusal.{Refusal}
use Rattle.command_input.specs.Scenarios.{ArePlansOf, AreNoPlans}

module _ (ops : List Op) (all rest later : List Named) (p : Named) (first : rest ≡ p ∷ later) (plan : Plan) (good : IsPlanOf p ops plan) where
  -- one plan more
  pub planned_on : (done more : List Plan) → more ≡ done ++ plan ∷ [] → ((plans : List Plan) → ArePlansOf ops rest plans → ArePlansOf ops all (done ++ plans)) → (plans : List Plan) → ArePlansOf ops later plans
      → ArePlansOf ops all (more ++ plans)
  planned_on done more pushed before plans are =
      subst (λ (xs : List Plan). ArePlansOf ops all (xs ++ plans)) (sym pushed)
      (subst (λ (xs : List Plan). ArePlansOf ops all xs) (sym (append_assoc done (plan ∷ []) plans))
      (before (plan ∷ plans) (subst (λ (ps : List Named). ArePlansOf ops ps (plan ∷ plans)) (sym first) (good, are))))

  -- and one process more before the first that has none
  pub unplanned_on : ((r : Refusal) → AreNoPlans ops rest r → AreNoPlans ops all r) → (r : Refusal) → AreNoPlans ops later r → AreNoPlans ops all r
  unplanned_on before r none = before r (subst (λ (ps : List Named). AreNoPlans ops ps r) (sym first) (inr ((plan, good), none)))

-- all of them, where no process is left
pub planned_all : (ops : List Op) (all rest : List Named) (done : List Plan) → rest ≡ [] → ((plans : List Plan) → ArePlansOf ops rest plans → ArePlansOf ops all (done ++ plans)) → ArePlansOf ops all done
planned_all ops all rest done none before =
    subst (λ (xs : List Plan). ArePlansOf ops all xs) (append-nil done) (before [] (subst (λ (ps : List Named). ArePlansOf ops ps []) (sym none) tt))
