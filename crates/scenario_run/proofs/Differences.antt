-- Where two rows of bytes differ first.
use Rattle.std.proofs.Common.{◌≡◌, ◌≢◌, ◌∙◌, ℕ, suc, ◌+◌, Bool, true, false, eqb, List, [], ◌∷◌, Option, Some, None, if◌then◌else◌, refl, ap, sym, arith}
use Rattle.std.specs.Option.{option_map}
use Rattle.std.proofs.lemmas.Bool.{eq-eqb, eqb-true, ne_eqb}
use Rattle.scenario_run.specs.Opening.{first_difference}

abbrev head_by : (t : Bool) → List ℕ → List ℕ → Option ℕ
head_by t xs ys = if t then option_map suc (first_difference xs ys) else Some 0

-- after a byte that both have, it is one place on
pub after_same : (x y : ℕ) (xs ys : List ℕ) → x ≡ y → first_difference (x ∷ xs) (y ∷ ys) ≡ option_map suc (first_difference xs ys)
after_same x y xs ys same = ap (λ t. head_by t xs ys) (eq-eqb x y same)

-- at one that they haven't, it is here
pub at_other : (x y : ℕ) (xs ys : List ℕ) → x ≢ y → first_difference (x ∷ xs) (y ∷ ys) ≡ Some 0
at_other x y xs ys differ = ap (λ t. head_by t xs ys) (ne_eqb x y differ)

-- so many places further on
pub moved_by : (n : ℕ) (found : Option ℕ) → option_map (λ k. n + k) (option_map suc found) ≡ option_map (λ k. n + 1 + k) found
moved_by n None = refl
moved_by n (Some k) = ap Some (omega arith)

none_by : (o : Option ℕ) → option_map suc o ≡ None → o ≡ None
none_by None is = refl
none_by (Some n) is = absurd cc

same_by : (x y : ℕ) (xs ys : List ℕ) (t : Bool) → eqb x y ≡ t → (first_difference xs ys ≡ None → xs ≡ ys) → head_by (eqb x y) xs ys ≡ None → x ∷ xs ≡ y ∷ ys
same_by x y xs ys true at rest none =
    ap (λ z. z ∷ xs) (eqb-true x y at) ∙ ap (λ zs. y ∷ zs) (rest (none_by (first_difference xs ys) (sym (ap (λ t. head_by t xs ys) at) ∙ none)))
same_by x y xs ys false at rest none = absurd (let no : Some 0 ≡ None = sym (ap (λ t. head_by t xs ys) at) ∙ none in cc)

-- rows that differ nowhere are the same
pub same_where_none : (xs ys : List ℕ) → first_difference xs ys ≡ None → xs ≡ ys
same_where_none [] [] none = refl
same_where_none [] (y ∷ ys) none = absurd cc
same_where_none (x ∷ xs) [] none = absurd cc
same_where_none (x ∷ xs) (y ∷ ys) none = same_by x y xs ys (eqb x y) refl (same_where_none xs ys) none

-- and a row differs nowhere from itself
pub none_of_itself : (xs : List ℕ) → first_difference xs xs ≡ None
none_of_itself [] = refl
none_of_itself (x ∷ xs) = after_same x x xs xs refl ∙ ap (option_map suc) (none_of_itself xs)
