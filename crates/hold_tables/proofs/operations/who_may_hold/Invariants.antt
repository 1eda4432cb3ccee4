use Rattle.std.proofs.Common.{◌≡◌, ◌<◌, ℕ, true, false, slice_index_or}
use Rattle.hold_tables.specs.Operations.{is_held_at, is_row_against}
use Rattle.hold_tables.proofs.operations.who_may_hold.Given as goal

abbrev pub invariant-loop-row : goal.invariant-loop-row
invariant-loop-row l =
    ((k p : ℕ) → k < l.row → is_held_at l.beside k p ≡ true → is_row_against l.c l.op k ≡ true → slice_index_or l.who p false ≡ true)
    × ((p : ℕ) → slice_index_or l.who p false ≡ true → (k : ℕ) × (is_held_at l.beside k p ≡ true) × (is_row_against l.c l.op k ≡ true))
