use Rattle.std.proofs.Common.{◌≡◌, ◌<◌, ◌≤◌, ◌*◌, ◌/◌, ℕ, length, slice_index_or}
use Rattle.bit_rows.specs.Cells.{place_before}
use Rattle.bit_rows.specs.Rows.{has_column}
use Rattle.bit_rows.proofs.taking.take_out.Given as goal

abbrev pub invariant-loop-k : goal.invariant-loop-k
invariant-loop-k l =
    (length l.words ≡ 4)
    × (l.column / 64 ≤ l.k)
    × ((m : ℕ) → m < l.k * 64 → has_column l.words m ≡ has_column l.fn.words (place_before l.column m))
    × ((j : ℕ) → l.k ≤ j → slice_index_or l.words j 0 ≡ slice_index_or l.fn.words j 0)
