use Rattle.std.proofs.Common.{◌≡◌, ◌≤◌, ℕ, false, length, vec_capacity}
use Rattle.bit_rows.specs.Cells.{cell}
use Rattle.bit_rows.proofs.bits.Bits.with_rows.Given as goal

abbrev pub invariant-loop : goal.invariant-loop
invariant-loop l =
    (length l.rows.items ≡ l.counter) × (l.count ≤ vec_capacity l.rows) × (256 ≤ vec_capacity l.rows)
    × ((a b : ℕ) → cell l.rows.items a b ≡ false)
