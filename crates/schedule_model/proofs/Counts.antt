-- How many elements of a list pass a test.
use Rattle.std.proofs.Common.{◌≡◌, ℕ, ◌≤◌, ◌<◌, Bool, true, false, not, cond, eqb, ◌||◌, ◌&&◌, List, [], ◌∷◌, length, filter, sym, refl, ap, ◌∙◌, arith}
use Rattle.std.specs.List.{list_any}
use Rattle.std.proofs.lemmas.Bool.{eqb-true, eq-eqb, false≢true, or_left, or_right}
use Rattle.schedule_model.specs.Histories.{is_in}

-- in this file a test of p is weaker than one of r
abbrev pub Within : (ℕ → Bool) → (ℕ → Bool) → Type 0
Within p r = (k : ℕ) → p k ≡ true → r k ≡ true

filter_step : (p r : ℕ → Bool) (x : ℕ) (ys zs : List ℕ) (a b : Bool) → p x ≡ a → r x ≡ b → Within p r → length ys ≤ length zs
    → length (cond a (x ∷ ys) ys) ≤ length (cond b (x ∷ zs) zs)
filter_step p r x ys zs true true is has h e = omega arith
filter_step p r x ys zs true false is has h e = absurd (false≢true (sym has ∙ h x is))
filter_step p r x ys zs false true is has h e = omega arith
filter_step p r x ys zs false false is has h e = e

-- a weaker test lets as many through
pub length_filter-within : (p r : ℕ → Bool) (xs : List ℕ) → Within p r → length (filter p xs) ≤ length (filter r xs)
length_filter-within p r [] h = omega arith
length_filter-within p r (x ∷ xs) h = filter_step p r x (filter p xs) (filter r xs) (p x) (r x) refl refl h (length_filter-within p r xs h)

more_step : (p r : ℕ → Bool) (x : ℕ) (ys zs : List ℕ) (a b t : Bool) → p x ≡ a → r x ≡ b → Within p r → length ys ≤ length zs
    → (t ≡ true → length ys < length zs) → ((not a && b) || t) ≡ true → length (cond a (x ∷ ys) ys) < length (cond b (x ∷ zs) zs)
more_step p r x ys zs true true t is has h e more any = let l : length ys < length zs = more any in omega arith
more_step p r x ys zs true false t is has h e more any = absurd (false≢true (sym has ∙ h x is))
more_step p r x ys zs false true t is has h e more any = omega arith
more_step p r x ys zs false false t is has h e more any = more any

-- and more of them, where one passes it alone
pub length_filter-more : (p r : ℕ → Bool) (xs : List ℕ) → Within p r → list_any (λ k. not (p k) && r k) xs ≡ true → length (filter p xs) < length (filter r xs)
length_filter-more p r [] h any = absurd (false≢true any)
length_filter-more p r (x ∷ xs) h any = more_step p r x (filter p xs) (filter r xs) (p x) (r x) (list_any (λ k. not (p k) && r k) xs) refl refl h (length_filter-within p r xs h) (length_filter-more p r xs h) any

-- no more pass than there are
pub length_filter-most : (p : ℕ → Bool) (xs : List ℕ) → length (filter p xs) ≤ length xs
length_filter-most p [] = omega arith
length_filter-most p (x ∷ xs) = most (p x) (length_filter-most p xs)
  where
    most : (a : Bool) → length (filter p xs) ≤ length xs → length (cond a (x ∷ filter p xs) (filter p xs)) ≤ length (x ∷ xs)
    most true e = omega arith
    most false e = omega arith

all_step : (p : ℕ → Bool) (k x : ℕ) (ys xs : List ℕ) (a e b : Bool) → p x ≡ a → eqb k x ≡ e → length (x ∷ xs) ≤ length (cond a (x ∷ ys) ys) → length ys ≤ length xs
    → (length xs ≤ length ys → b ≡ true → p k ≡ true) → (e || b) ≡ true → p k ≡ true
all_step p k x ys xs false e b is same many most rest any = absurd (omega arith)
all_step p k x ys xs true true b is same many most rest any = ap p (eqb-true k x same) ∙ is
all_step p k x ys xs true false b is same many most rest any = rest (omega arith) any

-- where as many pass as there are, each passes
pub all_pass : (p : ℕ → Bool) (xs : List ℕ) (k : ℕ) → length xs ≤ length (filter p xs) → is_in k xs ≡ true → p k ≡ true
all_pass p [] k many any = absurd (false≢true any)
all_pass p (x ∷ xs) k many any = all_step p k x (filter p xs) xs (p x) (eqb k x) (is_in k xs) refl refl many (length_filter-most p xs) (λ l i. all_pass p xs k l i) any

-- tests that agree on what is listed let the same through
pub filter_same-in : (p q : ℕ → Bool) (xs : List ℕ) → ((k : ℕ) → is_in k xs ≡ true → p k ≡ q k) → filter p xs ≡ filter q xs
filter_same-in p q [] same = refl
filter_same-in p q (x ∷ xs) same = rw (same x (or_left (eqb x x) (is_in x xs) (eq-eqb x x refl))) (ap (λ ys. cond (q x) (x ∷ ys) ys) (filter_same-in p q xs (λ k is. same k (or_right (eqb k x) (is_in k xs) is))))
