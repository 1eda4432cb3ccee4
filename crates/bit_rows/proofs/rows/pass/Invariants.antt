use Rattle.std.proofs.Common.{◌≡◌, ◌<◌, ◌≤◌, ◌||◌, ◌&&◌, ℕ, false, [], slice_index_or}
use Rattle.bit_rows.specs.Cells.{cell}
use Rattle.bit_rows.proofs.rows.pass.Given as goal

abbrev pub invariant-loop-row : goal.invariant-loop-row
invariant-loop-row l =
    ((c d : ℕ) → c < l.row-index → d < 256 → cell l.rows c d ≡ (cell l.fn.rows c d || (cell l.fn.rows c l.place && slice_index_or l.beyond d false)))
    × ((c : ℕ) → l.row-index ≤ c → slice_index_or l.rows c [] ≡ slice_index_or l.fn.rows c [])
