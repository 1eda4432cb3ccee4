-- Lists whose elements are changed one by one: each function of a list goes along where its test does.
use Rattle.std.proofs.Common.{◌≡◌, ℕ, zero, suc, Bool, true, false, cond, ◌&&◌, ◌||◌, List, [], ◌∷◌, ◌++◌, length, map, filter, drop, sym, refl, ap, ◌∙◌}
use Rattle.std.specs.List.{flat_map, list_any, list_all}
use Rattle.std.specs.Prelude.{reverse}
use Rattle.std.proofs.lemmas.List.{map-append, reverse-append}

module _ {X Y : Type 0} (f : X → Y) where
  filter_step : (x : X) (xs : List X) (ys : List Y) (a b : Bool) → a ≡ b → ys ≡ map f xs → cond a (f x ∷ ys) ys ≡ map f (cond b (x ∷ xs) xs)
  filter_step x xs ys a true same e = ap (λ t. cond t (f x ∷ ys) ys) same ∙ ap (λ zs. f x ∷ zs) e
  filter_step x xs ys a false same e = ap (λ t. cond t (f x ∷ ys) ys) same ∙ e

  pub filter-mapped : (q : Y → Bool) (p : X → Bool) (xs : List X) → ((x : X) → q (f x) ≡ p x) → filter q (map f xs) ≡ map f (filter p xs)
  filter-mapped q p [] same = refl
  filter-mapped q p (x ∷ xs) same = filter_step x (filter p xs) (filter q (map f xs)) (q (f x)) (p x) (same x) (filter-mapped q p xs same)

  pub any-mapped : (q : Y → Bool) (p : X → Bool) (xs : List X) → ((x : X) → q (f x) ≡ p x) → list_any q (map f xs) ≡ list_any p xs
  any-mapped q p [] same = refl
  any-mapped q p (x ∷ xs) same = ap (λ t. t || list_any q (map f xs)) (same x) ∙ ap (λ t. p x || t) (any-mapped q p xs same)

  pub all-mapped : (q : Y → Bool) (p : X → Bool) (xs : List X) → ((x : X) → q (f x) ≡ p x) → list_all q (map f xs) ≡ list_all p xs
  all-mapped q p [] same = refl
  all-mapped q p (x ∷ xs) same = ap (λ t. t && list_all q (map f xs)) (same x) ∙ ap (λ t. p x && t) (all-mapped q p xs same)

  pub drop-mapped : (n : ℕ) (xs : List X) → drop n (map f xs) ≡ map f (drop n xs)
  drop-mapped zero xs = refl
  drop-mapped (suc n) [] = refl
  drop-mapped (suc n) (x ∷ xs) = drop-mapped n xs

  pub length-mapped : (xs : List X) → length (map f xs) ≡ length xs
  length-mapped [] = refl
  length-mapped (x ∷ xs) = ap suc (length-mapped xs)

  pub flat-mapped : {Z W : Type 0} (q : Y → List W) (p : X → List Z) (k : Z → W) (xs : List X) → ((x : X) → q (f x) ≡ map k (p x)) → flat_map q (map f xs) ≡ map k (flat_map p xs)
  flat-mapped q p k [] same = refl
  flat-mapped q p k (x ∷ xs) same =
      ap (λ ys. ys ++ flat_map q (map f xs)) (same x) ∙ (ap (λ ys. map k (p x) ++ ys) (flat-mapped q p k xs same) ∙ sym (map-append k (p x) (flat_map p xs)))

  pub map-mapped : {Z W : Type 0} (q : Y → W) (p : X → Z) (k : Z → W) (xs : List X) → ((x : X) → q (f x) ≡ k (p x)) → map q (map f xs) ≡ map k (map p xs)
  map-mapped q p k [] same = refl
  map-mapped q p k (x ∷ xs) same = ap (λ y. y ∷ map q (map f xs)) (same x) ∙ ap (λ ys. k (p x) ∷ ys) (map-mapped q p k xs same)

  -- what is the same of the changed ones
  pub map-unchanged : {Z : Type 0} (q : Y → Z) (p : X → Z) (xs : List X) → ((x : X) → q (f x) ≡ p x) → map q (map f xs) ≡ map p xs
  map-unchanged q p [] same = refl
  map-unchanged q p (x ∷ xs) same = ap (λ y. y ∷ map q (map f xs)) (same x) ∙ ap (λ ys. p x ∷ ys) (map-unchanged q p xs same)

  pub reverse-mapped : (xs : List X) → reverse (map f xs) ≡ map f (reverse xs)
  reverse-mapped [] = refl
  reverse-mapped (x ∷ xs) =
      reverse-append (f x ∷ []) (map f xs)
      ∙ (ap (λ ys. ys ++ f x ∷ []) (reverse-mapped xs) ∙ (sym (map-append f (reverse xs) (x ∷ [])) ∙ ap (map f) (sym (reverse-append (x ∷ []) xs))))
