-- A number other than 0 is 1 at least.
use Rattle.std.proofs.Common.{◌≡◌, ◌≤◌, ℕ, zero, suc, refl, arith}

pub from_one : (i : ℕ) → (i ≡ 0 → ⊥) → 1 ≤ i
from_one zero other = absurd (other refl)
from_one (suc i) other = omega arith
