-- The last entry of a process among others.
use Rattle.std.proofs.Common.{◌≡◌, ◌∙◌, ℕ, suc, Bool, true, false, not, cond, eqb, ◌&&◌, ◌||◌, if◌then◌else◌, List, [], ◌∷◌, ◌++◌, length, filter, drop, sym, refl, ap, length-append, arith}
use Rattle.std.proofs.lemmas.Bool.{false≢true}
use Rattle.process_tree.specs.declared.entry.Entry.{Entry}
use Rattle.process_tree.specs.Order.{Each}
use Rattle.schedule_model.specs.Histories.{of_process}
use Rattle.hold_tables.specs.Changes.{has_entry, without_last}
use Rattle.core_state.proofs.KeptCounts.{fewer_left}

-- two filters may be changed for one another
swap_step : {X : Type 0} (p q : X → Bool) (x : X) (xs : List X) (s t : Bool) → p x ≡ s → q x ≡ t → filter p (filter q xs) ≡ filter q (filter p xs)
    → filter p (cond t (x ∷ filter q xs) (filter q xs)) ≡ filter q (cond s (x ∷ filter p xs) (filter p xs))
swap_step p q x xs true true at ah rest = ap (λ t. cond t (x ∷ filter p (filter q xs)) (filter p (filter q xs))) at ∙ (ap (λ ys. x ∷ ys) rest ∙ sym (ap (λ t. cond t (x ∷ filter q (filter p xs)) (filter q (filter p xs))) ah))
swap_step p q x xs false true at ah rest = ap (λ t. cond t (x ∷ filter p (filter q xs)) (filter p (filter q xs))) at ∙ rest
swap_step p q x xs true false at ah rest = rest ∙ sym (ap (λ t. cond t (x ∷ filter q (filter p xs)) (filter q (filter p xs))) ah)
swap_step p q x xs false false at ah rest = rest

pub filter_swap : {X : Type 0} (p q : X → Bool) (xs : List X) → filter p (filter q xs) ≡ filter q (filter p xs)
filter_swap p q [] = refl
filter_swap p q (x ∷ xs) = swap_step p q x xs (p x) (q x) refl refl (filter_swap p q xs)

-- one filter after another is both at once
both_step : {X : Type 0} (p q : X → Bool) (x : X) (xs : List X) (s : Bool) → p x ≡ s → filter q (filter p xs) ≡ filter (λ y. p y && q y) xs → filter q (cond s (x ∷ filter p xs) (filter p xs)) ≡ filter (λ y. p y && q y) (x ∷ xs)
both_step p q x xs true is rest = ap (λ ys. cond (q x) (x ∷ ys) ys) rest ∙ sym (ap (λ t. cond (t && q x) (x ∷ filter (λ y. p y && q y) xs) (filter (λ y. p y && q y) xs)) is)
both_step p q x xs false is rest = rest ∙ sym (ap (λ t. cond (t && q x) (x ∷ filter (λ y. p y && q y) xs) (filter (λ y. p y && q y) xs)) is)

pub filter_both : {X : Type 0} (p q : X → Bool) (xs : List X) → filter q (filter p xs) ≡ filter (λ x. p x && q x) xs
filter_both p q [] = refl
filter_both p q (x ∷ xs) = both_step p q x xs (p x) refl (filter_both p q xs)

-- where as many are left, each passes
pub all_pass : {X : Type 0} (p : X → Bool) (xs : List X) → length (filter p xs) ≡ length xs → Each (λ x. p x ≡ true) xs
all_pass p [] many = tt
all_pass p (x ∷ xs) many = by_first (p x) refl many (all_pass p xs)
  where
    by_first : (t : Bool) → p x ≡ t → length (cond t (x ∷ filter p xs) (filter p xs)) ≡ suc (length xs) → (length (filter p xs) ≡ length xs → Each (λ y. p y ≡ true) xs) → Each (λ y. p y ≡ true) (x ∷ xs)
    by_first true is many' rest = (is, rest (omega arith))
    by_first false is many' rest = let few = fewer_left p xs in absurd (omega arith)

abbrev get_first : List Entry → Entry → Entry
get_first [] d = d
get_first (x ∷ xs) d = x

-- the last entry of a process goes, where it alone fails the test
module _ (i : ℕ) (q : Entry → Bool) (others : (e : Entry) → eqb e.process i ≡ false → q e ≡ true) (last : Entry) (fails : q last ≡ false) where
  none_fail : (es : List Entry) → has_entry i es ≡ false → filter q es ≡ es
  none_fail [] none = refl
  none_fail (e ∷ es) none = by_own (eqb e.process i) refl none (none_fail es)
    where
      by_own : (t : Bool) → eqb e.process i ≡ t → (t || has_entry i es) ≡ false → (has_entry i es ≡ false → filter q es ≡ es) → filter q (e ∷ es) ≡ e ∷ es
      by_own true is none' rest = absurd (false≢true (sym none'))
      by_own false is none' rest = ap (λ t. if t then e ∷ filter q es else filter q es) (others e is) ∙ ap (λ ys. e ∷ ys) (rest none')

  no_own : (es : List Entry) → has_entry i es ≡ false → of_process i es ≡ []
  no_own [] none = refl
  no_own (e ∷ es) none = by_own (eqb e.process i) refl none (no_own es)
    where
      by_own : (t : Bool) → eqb e.process i ≡ t → (t || has_entry i es) ≡ false → (has_entry i es ≡ false → of_process i es ≡ []) → of_process i (e ∷ es) ≡ []
      by_own true is none' rest = absurd (false≢true (sym none'))
      by_own false is none' rest = ap (λ t. if t then e ∷ of_process i es else of_process i es) is ∙ rest none'

  some_own : (es : List Entry) → has_entry i es ≡ true → of_process i es ≡ [] → ⊥
  some_own [] some none = false≢true some
  some_own (e ∷ es) some none = by_own (eqb e.process i) refl some none (some_own es)
    where
      by_own : (t : Bool) → eqb e.process i ≡ t → (t || has_entry i es) ≡ true → (if t then e ∷ of_process i es else of_process i es) ≡ [] → (has_entry i es ≡ true → of_process i es ≡ [] → ⊥) → ⊥
      by_own true is some' none' rest = let n = ap length none' in omega arith
      by_own false is some' none' rest = rest some' none'

  -- its entries are these, the last of which fails
  pub last_goes : (es : List Entry) (front : List Entry) → of_process i es ≡ front ++ last ∷ [] → Each (λ e. q e ≡ true) front → without_last i es ≡ filter q es
  last_goes [] front are pass = absurd (let n = ap length are in let m = length-append front (last ∷ []) in omega arith)
  last_goes (e ∷ es) front are pass = by_own (eqb e.process i) (has_entry i es) refl refl front are pass (last_goes es)
    where
      by_own : (t h : Bool) → eqb e.process i ≡ t → has_entry i es ≡ h → (bs : List Entry) → (if t then e ∷ of_process i es else of_process i es) ≡ bs ++ last ∷ [] → Each (λ x. q x ≡ true) bs
          → ((bs : List Entry) → of_process i es ≡ bs ++ last ∷ [] → Each (λ x. q x ≡ true) bs → without_last i es ≡ filter q es)
          → (if t && not h then es else e ∷ without_last i es) ≡ filter q (e ∷ es)
      by_own false h is has bs are' pass' rest = ap (λ ys. e ∷ ys) (rest bs are' pass') ∙ sym (ap (λ t. if t then e ∷ filter q es else filter q es) (others e is))
      by_own true true is has [] are' pass' rest = absurd (some_own es has (ap (drop 1) are'))
      by_own true true is has (b ∷ bs) are' pass' rest =
          let first : e ≡ b = ap (λ ys. get_first ys e) are' in
          ap (λ ys. e ∷ ys) (rest bs (ap (drop 1) are') pass'.1) ∙ sym (ap (λ t. if t then e ∷ filter q es else filter q es) (ap q first ∙ pass'.0))
      by_own true false is has [] are' pass' rest =
          let first : e ≡ last = ap (λ ys. get_first ys e) are' in
          sym (ap (λ t. if t then e ∷ filter q es else filter q es) (ap q first ∙ fails) ∙ none_fail es has)
      by_own true false is has (b ∷ bs) are' pass' rest = absurd (let n = ap length (sym (no_own es has) ∙ ap (drop 1) are') in let m = length-append bs (last ∷ []) in omega arith)
