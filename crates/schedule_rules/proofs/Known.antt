-- The operations of a plan that goes on.
use Rattle.std.proofs.Common.{◌≡◌, inr, ℕ, zero, suc, ◌<◌, Bool, true, List, [], ◌∷◌, length, drop, eqb, ltb, get_or, sym, refl, subst, arith}
use Rattle.std.specs.Bool.{IsTrue}
use Rattle.std.specs.List.{list_all}
use Rattle.std.proofs.lemmas.Bool.{and_parts, eqb-true, lt-ltb, ltb-true}
use Rattle.process_tree.specs.declared.entry.Entry.{Entry}
use Rattle.process_tree.specs.declared.plan.Plan.{Plan}
use Rattle.process_tree.specs.Blocks.{outline}
use Rattle.process_tree.specs.Order.{Each}
use Rattle.process_tree.specs.Shape.{shape_of, fixed_len, IsBranch}
use Rattle.schedule_model.specs.Course.{Course, course_of}
use Rattle.schedule_model.specs.Histories.{of_process, steps_of}
use Rattle.schedule_model.specs.Laws.{IsGoodPlan}
use Rattle.schedule_model.specs.OwnOrder.{is_of_last}
use Rattle.schedule_model.proofs.Members.{Among, among_there, in_map}
use Rattle.schedule_model.proofs.Undoing.{ends_with}
use Rattle.schedule_rules.specs.Recovering.{backward_among, owed_by}
use Rattle.schedule_rules.proofs.Branches.{steps_within}
use Rattle.schedule_rules.proofs.ListTests.{each-among}

-- what stands at a place of a list passes what all pass
pub all_at : (p : ℕ → Bool) (xs : List ℕ) (k d : ℕ) → list_all p xs ≡ true → k < length xs → p (get_or xs k d) ≡ true
all_at p [] k d all less = absurd (omega arith)
all_at p (x ∷ xs) zero d all less = (and_parts (p x) (list_all p xs) all).0
all_at p (x ∷ xs) (suc k) d all less = all_at p xs k d (and_parts (p x) (list_all p xs) all).1 (omega arith)

-- and so does what is read where there is nothing, if it passes itself
pub all_or : (p : ℕ → Bool) (xs : List ℕ) (k d : ℕ) → list_all p xs ≡ true → p d ≡ true → p (get_or xs k d) ≡ true
all_or p [] k d all none = none
all_or p (x ∷ xs) zero d all none = (and_parts (p x) (list_all p xs) all).0
all_or p (x ∷ xs) (suc k) d all none = all_or p xs k d (and_parts (p x) (list_all p xs) all).1 none

-- what is left of a list was there
pub dropped : (x : Entry) (n : ℕ) (xs : List Entry) → Among x (drop n xs) → Among x xs
dropped x zero [] is = absurd is
dropped x zero (y ∷ xs) is = is
dropped x (suc n) [] is = absurd is
dropped x (suc n) (y ∷ xs) is = inr (dropped x n xs is)

module _ (plan : Plan) (good : IsGoodPlan plan) (n : ℕ) (known : IsTrue (list_all (λ a. ltb a n) plan.ops)) where
  -- a step of the plan has a known operation
  pub op_known : (op b : ℕ) → op ≡ get_or plan.ops b 0 → b < length (outline plan.tree).steps → op < n
  op_known op b is less =
      let many = good.operations in
      subst (λ a. a < n) (sym is) (ltb-true (get_or plan.ops b 0) n (all_at (λ a. ltb a n) plan.ops b 0 known (omega arith)))

  -- where one is, all that is read is
  pub ops_known : (b : ℕ) → 0 < n → get_or plan.ops b 0 < n
  ops_known b some = ltb-true (get_or plan.ops b 0) n (all_or (λ a. ltb a n) plan.ops b 0 known (lt-ltb 0 n some))

  pub owed_known : (i : ℕ) (bs : List ℕ) → 0 < n → Each (λ (e : Entry). e.op < n) (owed_by (course_of plan) i bs)
  owed_known i [] some = tt
  owed_known i (b ∷ bs) some = (ops_known b some, owed_known i bs some)

-- what a process owes is its own
pub owed_own : (c : Course) (i : ℕ) (bs : List ℕ) → Each (λ (e : Entry). e.process ≡ i) (owed_by c i bs)
owed_own c i [] = tt
owed_own c i (b ∷ bs) = (refl, owed_own c i bs)

-- a step that may be undone is a step of the plan
pub undo_within : (plan : Plan) → IsGoodPlan plan → (es : List Entry) (i : ℕ) (e : Entry) → IsBranch (shape_of plan.tree) (steps_of (of_process i es))
    → is_of_last (backward_among (course_of plan) es i) e ≡ true → e.step < length (outline plan.tree).steps
undo_within plan good es i e branch is =
    let ends = ends_with e (backward_among (course_of plan) es i) is in
    let own = of_process i es in
    let there = dropped ends.last (fixed_len (shape_of plan.tree) (steps_of own)) own (subst (Among ends.last) (sym ends.is) (among_there ends.front ends.last [])) in
    let within = each-among (λ b. b < length (outline plan.tree).steps) ends.last.step (steps_of own) (steps_within plan.tree good.tree (steps_of own) branch) (in_map (λ (x : Entry). x.step) ends.last own there) in
    subst (λ b. b < length (outline plan.tree).steps) (eqb-true ends.last.step e.step (and_parts (eqb ends.last.process e.process) (eqb ends.last.step e.step) ends.same).1) within
