use Rattle.std.proofs.Common.{◌≡◌, ◌||◌, ℕ, length}
use Rattle.process_tree.specs.Conflicts.{do_conflict}
use Rattle.bit_rows.specs.Cells.{cell}
use Rattle.dependence_model.specs.Dependence.{must_precede}
use Rattle.audit_core.specs.Taking.{AreAllKnown}
use Rattle.audit_core.specs.Arrows.{AreFew, columns}
use Rattle.audit_core.proofs.arrowing.arrows.Given as goal

abbrev pub invariant-loop-rest : goal.invariant-loop-rest
invariant-loop-rest l = record {
  known : AreAllKnown l.c l.rest;
  few : AreFew l.rest;
  count : length l.rows ≡ columns;
  at : (i j : ℕ) → (cell l.rows j i || must_precede (do_conflict l.c) l.rest i j) ≡ must_precede (do_conflict l.c) l.left i j;
}

abbrev pub decreases-loop-rest : goal.decreases-loop-rest
decreases-loop-rest l = length l.rest
