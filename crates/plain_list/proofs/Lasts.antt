-- The last of a list.
use Rattle.std.proofs.Common.{◌≡◌, ◌⊎◌, inl, inr, List, [], ◌∷◌, ◌++◌, refl, ap}

-- a list is empty, or has a last
pub last_cases : {A : Type 0} (v : List A) → (v ≡ []) ⊎ ((w : List A) × (a : A) × (v ≡ w ++ a ∷ []))
last_cases [] = inl refl
last_cases {A} (x ∷ v) = by_rest (last_cases v)
  where
    by_rest : (v ≡ []) ⊎ ((w : List A) × (a : A) × (v ≡ w ++ a ∷ [])) → (x ∷ v ≡ []) ⊎ ((w : List A) × (a : A) × (x ∷ v ≡ w ++ a ∷ []))
    by_rest (inl none) = inr ([], x, ap (λ xs. x ∷ xs) none)
    by_rest (inr some) = inr (x ∷ some.0, some.1, ap (λ xs. x ∷ xs) some.2)
