use Rattle.std.proofs.Common.{◌≡◌, ◌<◌, ℕ, [], length, slice_index_or}
use Rattle.bit_rows.proofs.rows.copy_all.Given as goal

abbrev pub invariant-loop-place : goal.invariant-loop-place
invariant-loop-place l = (length l.rows ≡ length l.others) × ((a : ℕ) → a < l.place → slice_index_or l.rows a [] ≡ slice_index_or l.others a [])
