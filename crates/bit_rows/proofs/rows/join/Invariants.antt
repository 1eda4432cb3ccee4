use Rattle.std.proofs.Common.{◌≡◌, ◌<◌, ◌≤◌, ◌||◌, ◌&&◌, ℕ, false, [], slice_index_or}
use Rattle.bit_rows.specs.Cells.{cell}
use Rattle.bit_rows.proofs.rows.join.Given as goal

abbrev pub invariant-loop-other : goal.invariant-loop-other
invariant-loop-other l =
    ((c d : ℕ) → c < l.other-index → d < 256 → cell l.rows c d ≡ (cell l.fn.rows c d || (cell l.fn.rows c l.a && slice_index_or l.beyond d false)))
    × ((c : ℕ) → l.other-index ≤ c → slice_index_or l.rows c [] ≡ slice_index_or l.fn.rows c [])
