-- The places of a list.
use Rattle.std.proofs.Common.{◌≡◌, ◌≢◌, ◌⊎◌, inl, inr, ◌<◌, ℕ, zero, suc, List, [], ◌∷◌, length, refl, sym, ◌∙◌, ap, subst, arith, Some}
use Rattle.std.specs.Prelude.{slice_set, unwrap_or, get_or}
use Rattle.std.proofs.lemmas.Option.{slice_get-get_or}
use Rattle.std.proofs.lemmas.Option.{none-some}
use Rattle.std.specs.List.{slice_get}
use Rattle.history_files.specs.Standing.{AtEach}

-- each place below the length has an element
pub place_has : {A : Type 0} (xs : List A) (q : ℕ) → q < length xs → (x : A) × (slice_get xs q ≡ Some x)
place_has [] q within = absurd (omega (arith, within))
place_has (x ∷ xs) zero within = (x, refl)
place_has (x ∷ xs) (suc q) within = place_has xs q (omega (arith, within))

-- the element at a place of eight
pub at_place : {A : Type 0} (xs : List A) (q r : ℕ) (x : A) → r ≡ q → length xs ≡ 8 → q < 8 → x ≡ get_or xs r x → slice_get xs q ≡ Some x
at_place xs q r x same eight within is = slice_get-get_or xs q x (omega (arith, eight, within)) ∙ ap Some (sym (subst (λ n. x ≡ get_or xs n x) same is))

-- with another element in one place, an element is that one in that place, or stood in its place before
pub place_of_set : {A : Type 0} (xs : List A) (q : ℕ) (y : A) (k : ℕ) (x : A) → slice_get (slice_set xs q y) k ≡ Some x
    → ((k ≡ q) × (x ≡ y)) ⊎ ((k ≢ q) × (slice_get xs k ≡ Some x))
place_of_set [] q y k x at = absurd (none-some x at)
place_of_set (a ∷ xs) zero y zero x at = inl (refl, ap (λ o. unwrap_or o y) (sym at))
place_of_set (a ∷ xs) zero y (suc k) x at = inr ((λ same. absurd (omega (arith, same))), at)
place_of_set (a ∷ xs) (suc q) y zero x at = inr ((λ same. absurd (omega (arith, same))), at)
place_of_set (a ∷ xs) (suc q) y (suc k) x at = later (place_of_set xs q y k x at)
  where
    later : ((k ≡ q) × (x ≡ y)) ⊎ ((k ≢ q) × (slice_get xs k ≡ Some x)) → ((suc k ≡ suc q) × (x ≡ y)) ⊎ ((suc k ≢ suc q) × (slice_get xs k ≡ Some x))
    later (inl here) = inl (ap suc here.0, here.1)
    later (inr there) = inr ((λ same. there.0 (omega (arith, same))), there.1)

-- so what holds of that element, and of each other in its place, holds of each
pub set_each : {A : Type 0} (P : ℕ → A → Type 0) (xs : List A) (q : ℕ) (y : A) → P q y → ((k : ℕ) (x : A) → k ≢ q → slice_get xs k ≡ Some x → P k x) → AtEach P (slice_set xs q y)
set_each P xs q y own others k x at = by (place_of_set xs q y k x at)
  where
    by : ((k ≡ q) × (x ≡ y)) ⊎ ((k ≢ q) × (slice_get xs k ≡ Some x)) → P k x
    by (inl here) = subst (λ n. P n x) (sym here.0) (subst (P q) (sym here.1) own)
    by (inr there) = others k x there.0 there.1

-- and there are as many
pub length-set : {A : Type 0} (xs : List A) (q : ℕ) (y : A) → length (slice_set xs q y) ≡ length xs
length-set [] q y = refl
length-set (a ∷ xs) zero y = refl
length-set (a ∷ xs) (suc q) y = ap suc (length-set xs q y)
