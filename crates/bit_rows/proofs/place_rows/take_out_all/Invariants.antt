use Rattle.std.proofs.Common.{◌≡◌, ◌<◌, ◌≤◌, ℕ, [], slice_index_or}
use Rattle.bit_rows.specs.Cells.{cell_or, place_before}
use Rattle.bit_rows.proofs.place_rows.take_out_all.Given as goal

abbrev pub invariant-loop-row : goal.invariant-loop-row
invariant-loop-row g l =
    ((a b : ℕ) → a < l.row-index → cell_or l.none l.rows a b ≡ cell_or l.none l.fn.rows a (place_before l.place b))
    × ((a : ℕ) → l.row-index ≤ a → slice_index_or l.rows a [] ≡ slice_index_or l.fn.rows a [])
