use Rattle.std.proofs.Common.{◌≡◌, ◌&&◌, ◌||◌, ℕ, length, nat_eq}
use Rattle.bit_rows.specs.Cells.{cell}
use Rattle.schedule_model.specs.Histories.{of_process}
use Rattle.hold_tables.specs.Operations.{has_row, ops_of, pending_ops}
use Rattle.hold_tables.specs.Tables.{lasts}
use Rattle.hold_tables.proofs.slots.set_pending.Given as goal

abbrev pub invariant-entries : goal.invariant-entries
invariant-entries l =
    (length l.bits ≡ 257)
    × ((k p : ℕ) → ((nat_eq p l.place && has_row k (ops_of (lasts l.left (of_process l.row.process l.rest)))) || cell l.bits k p)
    ≡ ((nat_eq p l.place && has_row k (pending_ops l.net l.row)) || cell l.fn.bits k p))

abbrev pub decreases-entries : goal.decreases-entries
decreases-entries l = length l.rest
