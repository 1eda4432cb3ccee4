-- There is a store for each subsystem.
use Rattle.std.proofs.Common.{◌≡◌, ◌<◌, ℕ, zero, suc, List, [], ◌∷◌, length, Some, refl, arith}
use Rattle.std.specs.List.{slice_get}

-- what is at a place of a list
pub at_place : {A : Type 0} (xs : List A) (q : ℕ) → q < length xs → (x : A) × (slice_get xs q ≡ Some x)
at_place [] q within = absurd (omega arith)
at_place (x ∷ xs) zero within = (x, refl)
at_place (x ∷ xs) (suc q) within = at_place xs q (omega arith)
