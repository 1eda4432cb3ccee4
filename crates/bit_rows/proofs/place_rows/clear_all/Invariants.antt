use Rattle.std.proofs.Common.{◌≡◌, ◌<◌, ◌≤◌, ℕ, [], slice_index_or, if◌then◌else◌}
use Rattle.std.specs.Prelude.{nat_eq}
use Rattle.bit_rows.specs.Cells.{cell_or}
use Rattle.bit_rows.proofs.place_rows.clear_all.Given as goal

abbrev pub invariant-loop-row : goal.invariant-loop-row
invariant-loop-row g l =
    ((a b : ℕ) → a < l.row-index → cell_or l.none l.rows a b ≡ (if nat_eq b l.place then l.none else cell_or l.none l.fn.rows a b))
    × ((a : ℕ) → l.row-index ≤ a → slice_index_or l.rows a [] ≡ slice_index_or l.fn.rows a [])
