use Rattle.std.proofs.Common.{◌≡◌, ℕ, true, false, length, map}
use Rattle.std.specs.Prelude.{nat_eq}
use Rattle.bit_rows.specs.Cells.{cell}
use Rattle.hold_tables.specs.Operations.{has_row}
use Rattle.hold_tables.proofs.slots.clear_steps.Given as goal

abbrev pub invariant-loop-rest : goal.invariant-loop-rest
invariant-loop-rest l =
    (length l.bits ≡ 257)
    × ((k p : ℕ) → nat_eq p l.place ≡ false → cell l.bits k p ≡ cell l.fn.bits k p)
    × ((k : ℕ) → cell l.bits k l.place ≡ true → has_row k (map (λ (step : ℕ × ℕ × ℕ). step.1) l.rest) ≡ true)

abbrev pub decreases-loop-rest : goal.decreases-loop-rest
decreases-loop-rest l = length l.rest
