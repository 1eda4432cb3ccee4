-- The plans of a scenario may start under its catalog.
use Rattle.std.proofs.Common.{◌≡◌, ◌≤◌, suc, List, [], ◌∷◌, length, None, Ok, inl, inr, ap, refl, sym, subst, arith}
use Rattle.process_tree.specs.Blocks.{outline}
use Rattle.process_tree.specs.Making.{tree_fault}
use Rattle.process_tree.specs.Order.{Each}
use Rattle.process_tree.specs.Shape.{shape_of}
use Rattle.process_tree.specs.Termination.{IsWellFormed}
use Rattle.process_tree.specs.declared.plan.Plan.{Plan}
use Rattle.process_tree.specs.declared.tree.Named.{Named}
use Rattle.process_text.specs.Grammar.{AreTrees, process_of}
use Rattle.schedule_model.specs.Laws.{IsGoodPlan}
use Rattle.commute_table.specs.declared.catalog.Catalog.{Catalog}
use Rattle.commute_table.specs.declared.op.Op.{Op}
use Rattle.commute_table.specs.Binding.{IsPlanOf, numbers_bound}
use Rattle.engine_steps.specs.Beginning.{IsPlanFor}
use Rattle.command_refusals.specs.Verdicts.{IsFirstVerdict}
use Rattle.command_input.specs.Scenarios.{ArePlansOf, IsBound}

-- a plan of a process is that of its own name and tree
own_plan : (ops : List Op) (p : Named) (plan : Plan) → IsPlanOf p ops plan → IsPlanOf (process_of plan.name plan.tree) ops plan
own_plan ops p plan is = record {
  name = refl;
  tree = refl;
  numbers = subst (λ t. numbers_bound ops [] (outline t).steps ≡ Ok plan.ops) (sym is.tree) is.numbers;
  count = subst (λ t. length plan.ops ≡ length (outline t).steps) (sym is.tree) is.count;
  within = is.within;
}

pub plans_start : (c : Catalog) (ps : List Named) (plans : List Plan) → ArePlansOf c.ops ps plans → AreTrees ps → IsFirstVerdict ps None → Each (λ p. IsPlanFor c p × IsGoodPlan p) plans
plans_start c [] [] are trees good = tt
plans_start c [] (plan ∷ plans) are trees good = absurd are
plans_start c (p ∷ ps) [] are trees good = absurd are
plans_start c (p ∷ ps) (plan ∷ plans) are trees (inl bad) = absurd bad
plans_start c (p ∷ ps) (plan ∷ plans) are trees (inr good) =
    let is = are.0 in
    let own = own_plan c.ops p plan is in
    let well : IsWellFormed (shape_of plan.tree) = subst (λ t. IsWellFormed (shape_of t)) (sym is.tree) good.0 in (
      (record { bound = own; well_formed = well }, record { tree = subst (λ t. tree_fault t ≡ None) (sym is.tree) trees.0; well_formed = well; operations = own.count }),
      plans_start c ps plans are.1 trees.1 good.1,
    )

as_many : (ops : List Op) (ps : List Named) (plans : List Plan) → ArePlansOf ops ps plans → length plans ≡ length ps
as_many ops [] [] are = refl
as_many ops [] (plan ∷ plans) are = absurd are
as_many ops (p ∷ ps) [] are = absurd are
as_many ops (p ∷ ps) (plan ∷ plans) are = ap suc (as_many ops ps plans are.1)

module _ (bytes : _) (c : Catalog) (plans : List Plan) (bound : IsBound bytes c plans) where
  -- each may start,
  pub bound_start : Each (λ p. IsPlanFor c p × IsGoodPlan p) plans
  bound_start = let good = bound.2 in plans_start c good.0 plans good.2 good.1.trees good.3

  -- and there are at most as many as a text may have processes
  pub bound_few : length plans ≤ 256
  bound_few = let good = bound.2 in omega (arith, as_many c.ops good.0 plans good.2, good.1.few)
