use Rattle.std.proofs.Common.{◌≤◌, length}
use Rattle.process_tree.specs.Conflicts.{do_conflict}
use Rattle.audit_core.specs.Taking.{AreAllKnown, TookFrom}
use Rattle.audit_core.proofs.taking.take_some.Given as goal

abbrev pub invariant-loop-at : goal.invariant-loop-at
invariant-loop-at l = record {
  within : l.at ≤ length l.list.items;
  known : AreAllKnown l.c l.list.items;
  took : TookFrom (do_conflict l.c) l.at l.fn.list.items l.list.items l.took;
}

abbrev pub decreases-loop-at : goal.decreases-loop-at
decreases-loop-at l = l.at
