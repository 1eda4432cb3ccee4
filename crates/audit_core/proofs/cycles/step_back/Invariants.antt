use Rattle.std.proofs.Common.{◌≡◌, ◌<◌, ℕ, true}
use Rattle.bit_rows.specs.Cells.{cell}
use Rattle.audit_core.specs.Arrows.{has}
use Rattle.audit_core.proofs.cycles.step_back.Given as goal

abbrev pub invariant-loop-k : goal.invariant-loop-k
invariant-loop-k l = record {
  sound : (k : ℕ) → has l.before k ≡ true → (j : ℕ) × (has l.set j ≡ true) × (cell l.rows j k ≡ true);
  complete : (j k : ℕ) → j < l.k → has l.set j ≡ true → cell l.rows j k ≡ true → has l.before k ≡ true;
}
