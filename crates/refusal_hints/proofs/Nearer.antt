-- What holds at all numbers below one and at that one.
use Rattle.std.proofs.Common.{◌<◌, ◌+◌, ℕ, subst, sym, inl, inr, arith}
use Rattle.std.proofs.lemmas.Bool.{cases_eq}

pub or_last : (P : ℕ → Type 0) (n : ℕ) → ((k : ℕ) → k < n → P k) → P n → (k : ℕ) → k < n + 1 → P k
or_last P n before here k below = elim (cases_eq k n) [
  | inl same ↦ subst P (sym same) here
  | inr other ↦ before k (omega (arith, below, other))
]
