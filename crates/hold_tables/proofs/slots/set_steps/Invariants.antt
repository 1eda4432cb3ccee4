use Rattle.std.proofs.Common.{◌≡◌, ◌&&◌, ◌||◌, ℕ, length, map, nat_eq}
use Rattle.bit_rows.specs.Cells.{cell}
use Rattle.hold_tables.specs.Operations.{has_row}
use Rattle.hold_tables.proofs.slots.set_steps.Given as goal

abbrev pub invariant-loop-rest : goal.invariant-loop-rest
invariant-loop-rest l =
    (length l.bits ≡ 257)
    × ((k p : ℕ) → ((nat_eq p l.place && has_row k (map (λ (step : ℕ × ℕ × ℕ). step.1) l.rest)) || cell l.bits k p)
    ≡ ((nat_eq p l.place && has_row k (map (λ (step : ℕ × ℕ × ℕ). step.1) l.steps)) || cell l.fn.bits k p))

abbrev pub decreases-loop-rest : goal.decreases-loop-rest
decreases-loop-rest l = length l.rest
