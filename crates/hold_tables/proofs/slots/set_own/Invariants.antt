use Rattle.std.proofs.Common.{◌≡◌, ◌&&◌, ◌||◌, ℕ, length, nat_eq}
use Rattle.bit_rows.specs.Cells.{cell}
use Rattle.schedule_model.specs.Histories.{of_process}
use Rattle.hold_tables.specs.Operations.{has_row, ops_of}
use Rattle.hold_tables.proofs.slots.set_own.Given as goal

abbrev pub invariant-loop-rest : goal.invariant-loop-rest
invariant-loop-rest l =
    (length l.bits ≡ 257)
    × ((k p : ℕ) → ((nat_eq p l.place && has_row k (ops_of (of_process l.process l.rest))) || cell l.bits k p)
    ≡ ((nat_eq p l.place && has_row k (ops_of (of_process l.process l.net))) || cell l.fn.bits k p))

abbrev pub decreases-loop-rest : goal.decreases-loop-rest
decreases-loop-rest l = length l.rest
