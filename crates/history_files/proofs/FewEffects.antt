-- A subsystem has at most as many effects as there are acts, and their numbers are below that of the next.
use Rattle.std.proofs.Common.{◌≡◌, inl, inr, ◌≤◌, ◌<◌, ◌+◌, ◌==◌, ℕ, Bool, true, false, List, [], ◌∷◌, length, refl, subst, arith, if◌then◌else◌}
use Rattle.std.proofs.lemmas.Bool.{lt-ltb}
use Rattle.process_tree.specs.declared.entry.Entry.{Entry}
use Rattle.process_tree.specs.declared.plan.Plan.{Plan}
use Rattle.schedule_model.proofs.Members.{Among}
use Rattle.commute_table.specs.declared.op.Op.{Op}
use Rattle.subsystem_store.specs.declared.effect.Effect.{Effect}
use Rattle.subsystem_store.specs.Order.{is_above}
use Rattle.history_files.specs.Effects.{effect_of, effects_from, subsystem_of}

module _ (ops : List Op) (plans : List Plan) (q : ℕ) where
  pub few_effects : (n : ℕ) (es : List Entry) → length (effects_from ops plans q n es) ≤ length es
  few_effects n [] = omega arith
  few_effects n (x ∷ xs) = by (subsystem_of ops x.op == q) (few_effects (n + 1) xs)
    where
      by : (b : Bool) → length (effects_from ops plans q (n + 1) xs) ≤ length xs
          → length (if b then effect_of ops plans n x ∷ effects_from ops plans q (n + 1) xs else effects_from ops plans q (n + 1) xs) ≤ length (x ∷ xs)
      by true few = omega (arith, few)
      by false few = omega (arith, few)

  -- the number of each is that of an entry
  numbers_below : (n : ℕ) (es : List Entry) (e : Effect) → Among e (effects_from ops plans q n es) → e.number < n + length es
  numbers_below n [] e is = absurd is
  numbers_below n (x ∷ xs) e is = by (subsystem_of ops x.op == q) is (numbers_below (n + 1) xs e)
    where
      by : (b : Bool) → Among e (if b then effect_of ops plans n x ∷ effects_from ops plans q (n + 1) xs else effects_from ops plans q (n + 1) xs)
          → (Among e (effects_from ops plans q (n + 1) xs) → e.number < (n + 1) + length xs) → e.number < n + length (x ∷ xs)
      by true (inl here) rest = subst (λ (f : Effect). f.number < n + length (x ∷ xs)) here (omega arith)
      by true (inr later) rest = let below = rest later in omega (arith, below)
      by false later rest = let below = rest later in omega (arith, below)

  -- so a number that is no lower is above them
  pub is_above_all : (es : List Entry) (number : ℕ) → length es ≤ number → is_above (effects_from ops plans q 0 es) number ≡ true
  is_above_all es number high = above (effects_from ops plans q 0 es) (λ e is. let below = numbers_below 0 es e is in omega (arith, below, high))
    where
      above : (book : List Effect) → ((e : Effect) → Among e book → e.number < number) → is_above book number ≡ true
      above [] below = refl
      above (e ∷ []) below = lt-ltb e.number number (below e (inl refl))
      above (e ∷ next ∷ book) below = above (next ∷ book) (λ x is. below x (inr is))
