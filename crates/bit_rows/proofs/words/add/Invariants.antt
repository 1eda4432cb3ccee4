use Rattle.std.proofs.Common.{◌≡◌, ◌<◌, ◌≤◌, ℕ, length, slice_index_or, bit_or}
use Rattle.bit_rows.proofs.words.add.Given as goal

abbrev pub invariant-loop-k : goal.invariant-loop-k
invariant-loop-k l =
    (length l.words ≡ 4)
    × ((j : ℕ) → j < l.k → slice_index_or l.words j 0 ≡ bit_or (slice_index_or l.fn.words j 0) (slice_index_or l.others j 0))
    × ((j : ℕ) → l.k ≤ j → slice_index_or l.words j 0 ≡ slice_index_or l.fn.words j 0)
