use Rattle.std.proofs.Common.{◌≡◌, ◌<◌, ◌≤◌, ℕ, length, slice_index_or}
use Rattle.bit_rows.specs.Cells.{place_before}
use Rattle.bit_rows.proofs.place_rows.take_out.Given as goal

abbrev pub invariant-loop-to : goal.invariant-loop-to
invariant-loop-to g l =
    ((b : ℕ) → b < l.to → slice_index_or l.row b l.none ≡ slice_index_or l.fn.row (place_before l.place b) l.none)
    × ((b : ℕ) → l.to ≤ b → slice_index_or l.row b l.none ≡ slice_index_or l.fn.row b l.none)
    × (length l.row ≡ length l.fn.row)
