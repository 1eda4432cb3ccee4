-- The plans of a scenario are good for an audit.
use Rattle.std.proofs.Common.{◌≡◌, ◌<◌, ℕ, List, [], ◌∷◌, length, nat_lt, None, inl, inr, refl, sym, subst}
use Rattle.std.specs.Bool.{IsTrue}
use Rattle.std.specs.List.{list_all}
use Rattle.std.proofs.lemmas.Bool.{and_from, lt-ltb}
use Rattle.process_tree.specs.Blocks.{outline}
use Rattle.process_tree.specs.Making.{tree_fault}
use Rattle.process_tree.specs.Order.{Each}
use Rattle.process_tree.specs.Shape.{shape_of}
use Rattle.process_tree.specs.Termination.{IsWellFormed}
use Rattle.process_tree.specs.declared.plan.Plan.{Plan}
use Rattle.process_tree.specs.declared.tree.Named.{Named}
use Rattle.process_text.specs.Grammar.{AreTrees}
use Rattle.commute_table.specs.declared.catalog.Catalog.{Catalog}
use Rattle.commute_table.specs.declared.op.Op.{Op}
use Rattle.command_refusals.specs.Verdicts.{IsFirstVerdict}
use Rattle.command_input.specs.Scenarios.{ArePlansOf, IsBound}
use Rattle.audit_text.specs.Copies.{IsGoodFor}

-- numbers that are each below a bound pass the test of that
below_all : (n : ℕ) (ns : List ℕ) → Each (λ k. k < n) ns → IsTrue (list_all (λ a. nat_lt a n) ns)
below_all n [] each = refl
below_all n (k ∷ ns) each = and_from (nat_lt k n) (list_all (λ a. nat_lt a n) ns) (lt-ltb k n each.0) (below_all n ns each.1)

pub plans_good : (ops : List Op) (ps : List Named) (plans : List Plan) → ArePlansOf ops ps plans → AreTrees ps → IsFirstVerdict ps None → Each (IsGoodFor (length ops)) plans
plans_good ops [] [] are trees good = tt
plans_good ops [] (plan ∷ plans) are trees good = absurd are
plans_good ops (p ∷ ps) [] are trees good = absurd are
plans_good ops (p ∷ ps) (plan ∷ plans) are trees (inl bad) = absurd bad
plans_good ops (p ∷ ps) (plan ∷ plans) are trees (inr good) =
    let is = are.0 in (
      record {
        plan = record {
          tree = subst (λ t. tree_fault t ≡ None) (sym is.tree) trees.0;
          well_formed = subst (λ t. IsWellFormed (shape_of t)) (sym is.tree) good.0;
          operations = subst (λ t. length plan.ops ≡ length (outline t).steps) (sym is.tree) is.count;
        };
        known = below_all (length ops) plan.ops is.within;
      },
      plans_good ops ps plans are.1 trees.1 good.1,
    )

-- So are those to which a scenario is bound.
pub bound_good : (bytes : List ℕ) (c : Catalog) (plans : List Plan) → IsBound bytes c plans → Each (IsGoodFor (length c.ops)) plans
bound_good bytes c plans bound = let good = bound.2 in plans_good c.ops good.0 plans good.2 good.1.trees good.3
