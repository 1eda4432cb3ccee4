use Rattle.std.proofs.Common.{◌≡◌, ◌<◌, ◌≤◌, ℕ, [], false, slice_index_or, if◌then◌else◌}
use Rattle.std.specs.Prelude.{nat_eq}
use Rattle.bit_rows.specs.Cells.{cell}
use Rattle.bit_rows.proofs.rows.clear_all.Given as goal

abbrev pub invariant-loop-row : goal.invariant-loop-row
invariant-loop-row l =
    ((a b : ℕ) → a < l.row-index → cell l.rows a b ≡ (if nat_eq b l.place then false else cell l.fn.rows a b))
    × ((a : ℕ) → l.row-index ≤ a → slice_index_or l.rows a [] ≡ slice_index_or l.fn.rows a [])
