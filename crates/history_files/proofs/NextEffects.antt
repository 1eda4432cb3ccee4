-- The effects of a history with one event more.
use Rattle.std.proofs.Common.{◌≡◌, ◌≢◌, ◌⊎◌, inl, inr, ◌≤◌, ◌+◌, ◌==◌, eqb, ℕ, Bool, true, false, List, [], ◌∷◌, ◌++◌, length, refl, ◌∙◌, ap, arith, append-nil, if◌then◌else◌}
use Rattle.std.proofs.lemmas.Bool.Decides.{eqb_tells}
use Rattle.process_tree.specs.declared.entry.Entry.{Entry}
use Rattle.process_tree.specs.declared.plan.Plan.{Plan}
use Rattle.schedule_model.specs.declared.event.Event.TheVariants.{Act, End}
use Rattle.schedule_model.specs.Histories.{acts}
use Rattle.schedule_model.proofs.Appends.{acts-append}
use Rattle.commute_table.specs.declared.op.Op.{Op}
use Rattle.subsystem_store.specs.declared.effect.Effect.{Effect}
use Rattle.process_journal.specs.Bodies.{with_event}
use Rattle.history_files.specs.Effects.{effect_of, effects, effects_from, subsystem_of}
use Rattle.history_files.specs.Laws.{ActsAddTheirEffect, EndsAddNone, next_effect}
use Rattle.history_files.specs.Sound.{is_among}

module _ (ops : List Op) (plans : List Plan) (q : ℕ) where
  -- the effects of some entries, and then those of others
  pub effects_from-append : (n : ℕ) (xs ys : List Entry) → effects_from ops plans q n (xs ++ ys) ≡ effects_from ops plans q n xs ++ effects_from ops plans q (n + length xs) ys
  effects_from-append n [] ys = ap (λ m. effects_from ops plans q m ys) (let same : n ≡ n + 0 = omega arith in same)
  effects_from-append n (x ∷ xs) ys =
      by (subsystem_of ops x.op == q)
      (effects_from-append (n + 1) xs ys ∙ ap (λ m. effects_from ops plans q (n + 1) xs ++ effects_from ops plans q m ys) (let same : n + 1 + length xs ≡ n + length (x ∷ xs) = omega arith in same))
    where
      rest : List Effect
      rest = effects_from ops plans q (n + length (x ∷ xs)) ys

      by : (b : Bool) → effects_from ops plans q (n + 1) (xs ++ ys) ≡ effects_from ops plans q (n + 1) xs ++ rest
          → (if b then effect_of ops plans n x ∷ effects_from ops plans q (n + 1) (xs ++ ys) else effects_from ops plans q (n + 1) (xs ++ ys))
          ≡ (if b then effect_of ops plans n x ∷ effects_from ops plans q (n + 1) xs else effects_from ops plans q (n + 1) xs) ++ rest
      by true is = ap (λ es. effect_of ops plans n x ∷ es) is
      by false is = is

  -- of one entry
  pub one_effect : (n : ℕ) (e : Entry) → subsystem_of ops e.op ≡ q → effects_from ops plans q n (e ∷ []) ≡ effect_of ops plans n e ∷ []
  one_effect n e on = by (eqb_tells (subsystem_of ops e.op) q)
    where
      by : ((eqb (subsystem_of ops e.op) q ≡ true) × (subsystem_of ops e.op ≡ q)) ⊎ ((eqb (subsystem_of ops e.op) q ≡ false) × (subsystem_of ops e.op ≢ q))
          → effects_from ops plans q n (e ∷ []) ≡ effect_of ops plans n e ∷ []
      by (inl here) = ap (λ b. if b then effect_of ops plans n e ∷ [] else []) here.0
      by (inr there) = absurd (there.1 on)

  pub no_effect : (n : ℕ) (e : Entry) → subsystem_of ops e.op ≢ q → effects_from ops plans q n (e ∷ []) ≡ []
  no_effect n e off = by (eqb_tells (subsystem_of ops e.op) q)
    where
      by : ((eqb (subsystem_of ops e.op) q ≡ true) × (subsystem_of ops e.op ≡ q)) ⊎ ((eqb (subsystem_of ops e.op) q ≡ false) × (subsystem_of ops e.op ≢ q))
          → effects_from ops plans q n (e ∷ []) ≡ []
      by (inl here) = absurd (off here.1)
      by (inr there) = ap (λ b. if b then effect_of ops plans n e ∷ [] else []) there.0

  -- an effect of a higher number isn't among them
  pub not_among : (n : ℕ) (es : List Entry) (e : Effect) → n + length es ≤ e.number → is_among e (effects_from ops plans q n es) ≡ false
  not_among n [] e high = refl
  not_among n (x ∷ xs) e high = by (subsystem_of ops x.op == q) (eqb_tells e.number n) (not_among (n + 1) xs e (omega (arith, high)))
    where
      by : (b : Bool) → ((eqb e.number n ≡ true) × (e.number ≡ n)) ⊎ ((eqb e.number n ≡ false) × (e.number ≢ n))
          → is_among e (effects_from ops plans q (n + 1) xs) ≡ false
          → is_among e (if b then effect_of ops plans n x ∷ effects_from ops plans q (n + 1) xs else effects_from ops plans q (n + 1) xs) ≡ false
      by true (inl same) rest = let is = same.1 in absurd (omega (arith, high))
      by true (inr other) rest = rw other.0 rest
      by false told rest = rest

-- an act adds its effect
pub acts_add_their_effect : ActsAddTheirEffect
acts_add_their_effect ops h e = record {
  own = λ q on. more q ∙ ap (λ es. effects ops h q ++ es) (one_effect ops h.plans q (length (acts h.events)) e on);
  others = λ q off. more q ∙ ap (λ es. effects ops h q ++ es) (no_effect ops h.plans q (length (acts h.events)) e off) ∙ append-nil (effects ops h q);
  new = λ q. not_among ops h.plans q 0 (acts h.events) (next_effect ops h e) (omega arith);
}
  where
    more : (q : ℕ) → effects ops (with_event h (Act e)) q ≡ effects ops h q ++ effects_from ops h.plans q (length (acts h.events)) (e ∷ [])
    more q = ap (effects_from ops h.plans q 0) (acts-append h.events (Act e ∷ [])) ∙ effects_from-append ops h.plans q 0 (acts h.events) (e ∷ [])
        ∙ ap (λ m. effects ops h q ++ effects_from ops h.plans q m (e ∷ [])) (let same : 0 + length (acts h.events) ≡ length (acts h.events) = omega arith in same)

-- an end adds none
pub ends_add_none : EndsAddNone
ends_add_none ops h i q = ap (effects_from ops h.plans q 0) (acts-append h.events (End i ∷ []) ∙ append-nil (acts h.events))
