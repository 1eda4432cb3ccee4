-- Cells: rows with something for each place.
use Rattle.std.specs.Prelude.{◌≡◌, ◌≢◌, ◌<◌, ◌+◌, ◌||◌, ◌&&◌, ℕ, Bool, false, true, if◌then◌else◌}
use Rattle.std.specs.Prelude.{nat_lt, List, [], length, nat_eq, slice_index_or}

-- what stands in the row at place a, at place b
abbrev pub cell_or : {A : Type 0} → A → List (List A) → ℕ → ℕ → A
cell_or none rows a b = slice_index_or (slice_index_or rows a []) b none

-- the place that stood at place b before place p was taken out
abbrev pub place_before : ℕ → ℕ → ℕ
place_before p b = if nat_lt b p then b else b + 1

-- there is nothing at place p in each row
abbrev pub IsCleared : {A : Type 0} → A → ℕ → List (List A) → List (List A) → Type 0
IsCleared none p old new = (a b : ℕ) → cell_or none new a b ≡ (if nat_eq b p then none else cell_or none old a b)

-- what stands at place p is taken out of each row, and what stands behind it moves up
abbrev pub IsTakenOut : {A : Type 0} → A → ℕ → List (List A) → List (List A) → Type 0
IsTakenOut none p old new = (a b : ℕ) → cell_or none new a b ≡ cell_or none old a (place_before p b)

-- place p is taken out, and those behind it move up
abbrev pub IsPlaceTaken : {A : Type 0} → A → ℕ → List (List A) → List (List A) → Type 0
IsPlaceTaken none p old new = (a b : ℕ) → cell_or none new a b ≡ cell_or none old (place_before p a) (place_before p b)

-- rows of bits: whether the row at place a has place b
abbrev pub cell : List (List Bool) → ℕ → ℕ → Bool
cell rows a b = cell_or false rows a b

-- a place is this one, or is set
abbrev pub is_or : Bool → ℕ → ℕ → Bool
is_or set c a = nat_eq c a || set

-- an arrow from place a to place b: whoever comes to a comes wherever b comes
abbrev pub IsJoined : ℕ → ℕ → List (List Bool) → List (List Bool) → Type 0
IsJoined a b old new =
    (length new ≡ length old)
    × ((c d : ℕ) → c < length old → d < 256 → cell new c d
    ≡ (cell old c d || (is_or (cell old c a) c a && is_or (cell old b d) d b)))

-- whatever the row of place p has, each row has that has place p
abbrev pub IsPassed : ℕ → List (List Bool) → List (List Bool) → Type 0
IsPassed p old new =
    (length new ≡ length old)
    × ((a b : ℕ) → a < length old → b < 256 → cell new a b ≡ (cell old a b || (cell old a p && cell old p b)))

-- only the row at place a is another one
pub record IsOneRow {A : Type 0} (a : ℕ) (old new : List (List A)) : Type 0 where
  pub count : length new ≡ length old
  pub others : (c : ℕ) → c ≢ a → slice_index_or new c [] ≡ slice_index_or old c []

-- one, if this is so
abbrev pub one_if : Bool → ℕ
one_if true = 1
one_if false = 0

-- the bits are set where counts aren't 0
abbrev pub AreMarked : List (List ℕ) → List (List Bool) → Type 0
AreMarked counts bits = (length bits ≡ length counts) × ((a b : ℕ) → cell bits a b ≡ nat_lt 0 (cell_or 0 counts a b))
