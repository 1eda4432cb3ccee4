use Rattle.std.proofs.Common.{◌≡◌, ◌||◌, ◌&&◌, ℕ, length, eqb}
use Rattle.std.specs.List.{list_any}
use Rattle.process_tree.specs.Conflicts.{do_conflict}
use Rattle.schedule_model.specs.Conflict.{conflict}
use Rattle.bit_rows.specs.Cells.{cell}
use Rattle.audit_core.specs.Taking.{AreAllKnown}
use Rattle.audit_core.specs.Arrows.{AreFew, columns}
use Rattle.audit_core.proofs.arrowing.add_arrows.Given as goal

abbrev pub invariant-loop-rest : goal.invariant-loop-rest
invariant-loop-rest l = record {
  known : AreAllKnown l.c l.rest;
  few : AreFew l.rest;
  count : length l.rows ≡ columns;
  at : (i j : ℕ) → (cell l.rows j i || (eqb l.x.process i && list_any (λ y. eqb y.entry.process j && conflict (do_conflict l.c) l.x y.entry) l.rest))
      ≡ (cell l.fn.rows j i || (eqb l.x.process i && list_any (λ y. eqb y.entry.process j && conflict (do_conflict l.c) l.x y.entry) l.behind));
}

abbrev pub decreases-loop-rest : goal.decreases-loop-rest
decreases-loop-rest l = length l.rest
