use Rattle.std.proofs.Common.{◌≡◌, ◌+◌, ℕ, false, length, cond}
use Rattle.process_tree.specs.Conflicts.{do_conflict}
use Rattle.dependence_model.specs.Dependence.{AreTaken}
use Rattle.audit_core.specs.Taking.{AreAllKnown, StaysAt}
use Rattle.audit_core.proofs.taking.take_away.Given as goal

abbrev pub invariant-loop-more : goal.invariant-loop-more
invariant-loop-more l = record {
  known : AreAllKnown l.c l.list.items;
  taken : AreTaken (do_conflict l.c) l.fn.list.items l.list.items;
  stays : l.more ≡ false → (at : ℕ) → StaysAt (do_conflict l.c) at l.list.items;
}

abbrev pub decreases-loop-more : goal.decreases-loop-more
decreases-loop-more l = length l.list.items + cond l.more 1 0
