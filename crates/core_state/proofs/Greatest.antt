-- The greatest of numbers that pass, looked for from above.
use Rattle.std.proofs.Common.{◌≡◌, ◌⊎◌, inl, inr, ⊎_elim, ℕ, zero, suc, ◌+◌, ◌<◌, Bool, true, false, eqb, ◌||◌, if◌then◌else◌, [], ◌∷◌, ◌++◌, filter, Some, refl, ap, ◌∙◌, append-nil, arith}
use Rattle.std.proofs.lemmas.Bool.{eq-eqb, eqb-true, false≢true, or_left, or_right}
use Rattle.std.proofs.lemmas.List.Elements.{filter-append}
use Rattle.std.proofs.lemmas.List.Folds.{list_any-append}
use Rattle.process_tree.specs.Blocks.{numbers_from}
use Rattle.process_tree.specs.Order.{has}
use Rattle.process_tree.specs.Shape.{greatest}
use Rattle.process_tree.proofs.LastPath.{greatest_of}
use Rattle.core_state.proofs.StartedProcesses.{numbers_more}

either : (a b : Bool) → (a || b) ≡ true → (a ≡ true) ⊎ (b ≡ true)
either true b is = inl refl
either false b is = inr is

-- numbers that pass are no greater than all
passing_below : (q : ℕ → Bool) (a n e : ℕ) → has e (filter q (numbers_from a n)) ≡ true → e < a + n
passing_below q a zero e on = absurd (false≢true on)
passing_below q a (suc n) e on = by_first (q a) (λ later. let less = passing_below q (a + 1) n e later in omega arith) on
  where
    by_first : (t : Bool) → (has e (filter q (numbers_from (a + 1) n)) ≡ true → e < a + suc n) → has e (if t then a ∷ filter q (numbers_from (a + 1) n) else filter q (numbers_from (a + 1) n)) ≡ true → e < a + suc n
    by_first true later among = ⊎_elim (λ here. let same = eqb-true e a here in omega arith) later (either (eqb e a) (has e (filter q (numbers_from (a + 1) n))) among)
    by_first false later among = later among

module _ (q : ℕ → Bool) (left : ℕ) where
  one_more : filter q (numbers_from 1 (left + 1)) ≡ filter q (numbers_from 1 left) ++ (if q (left + 1) then (left + 1) ∷ [] else [])
  one_more =
      let e : 1 + left ≡ left + 1 = omega arith in
      ap (filter q) (numbers_more 1 left) ∙ (ap (λ k. filter q (numbers_from 1 left ++ k ∷ [])) e ∙ filter-append q (numbers_from 1 left) ((left + 1) ∷ []))

  pub passed_over : q (left + 1) ≡ false → filter q (numbers_from 1 (left + 1)) ≡ filter q (numbers_from 1 left)
  passed_over is = one_more ∙ (ap (λ t. filter q (numbers_from 1 left) ++ (if t then (left + 1) ∷ [] else [])) is ∙ append-nil (filter q (numbers_from 1 left)))

  pub greatest_here : q (left + 1) ≡ true → greatest (filter q (numbers_from 1 (left + 1))) ≡ Some (left + 1)
  greatest_here is = greatest_of (filter q (numbers_from 1 (left + 1))) (left + 1)
      (ap (has (left + 1)) (one_more ∙ ap (λ t. filter q (numbers_from 1 left) ++ (if t then (left + 1) ∷ [] else [])) is)
      ∙ (list_any-append (eqb (left + 1)) (filter q (numbers_from 1 left)) ((left + 1) ∷ []) ∙ or_right (has (left + 1) (filter q (numbers_from 1 left))) (eqb (left + 1) (left + 1) || false) (or_left (eqb (left + 1) (left + 1)) false (eq-eqb (left + 1) (left + 1) refl))))
      (λ e among. let less = passing_below q 1 (left + 1) e among in omega arith)
