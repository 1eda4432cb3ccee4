use Rattle.std.proofs.Common.{◌≡◌, ◌<◌, ℕ, true, false}
use Rattle.bit_rows.specs.Cells.{cell}
use Rattle.hold_tables.specs.Operations.{is_row_against}
use Rattle.hold_tables.proofs.operations.is_clear.Given as goal

abbrev pub invariant-loop-row : goal.invariant-loop-row
invariant-loop-row l = (k p : ℕ) → k < l.row → cell l.bits k p ≡ true → is_row_against l.c l.op k ≡ false
