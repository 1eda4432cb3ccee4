-- How the whole paths of a process lie: each goes upward, and two of them part at a choice.
use Rattle.std.specs.Prelude.{ℕ, ◌<◌, ◌≡◌, ◌⊎◌, List, [], ◌∷◌, Bool, nat_eq, length}
use Rattle.std.specs.List.{list_any}

-- b is on the path
abbrev pub has : ℕ → List ℕ → Bool
has b p = list_any (nat_eq b) p

-- each has this property
abbrev pub Each : {A : Type 0} → (A → Type 0) → List A → Type 0
Each P [] = Unit
Each P (x ∷ xs) = P x × Each P xs

-- each is greater than those before it
abbrev pub IsRising : List ℕ → Type 0
IsRising [] = Unit
IsRising (x ∷ xs) = Each (λ y. x < y) xs × IsRising xs

-- the two go together for a while, and then each further step of the first is below the next step of the second
abbrev pub PartsBelow : List ℕ → List ℕ → Type 0
PartsBelow [] q = ⊥
PartsBelow (x ∷ p) [] = ⊥
PartsBelow (x ∷ p) (y ∷ q) = ((x ≡ y) × PartsBelow p q) ⊎ Each (λ z. z < y) (x ∷ p)

-- each of these parts from each later one, and is below it from there on
abbrev pub AreInOrder : List (List ℕ) → Type 0
AreInOrder [] = Unit
AreInOrder (p ∷ ps) = Each (PartsBelow p) ps × AreInOrder ps

-- paths of at least one step each, which lie in order below a number
pub record IsLaidOut (count : ℕ) (paths : List (List ℕ)) : Type 0 where
  pub some : Each (λ p. 0 < length p) paths
  pub within : Each (Each (λ b. b < count)) paths
  pub rising : Each IsRising paths
  pub in_order : AreInOrder paths
