use Rattle.std.proofs.Common.{◌≡◌, false, [], length}
use Rattle.process_tree.specs.Conflicts.{do_conflict}
use Rattle.schedule_rules.specs.Applying.{AreKnown}
use Rattle.dependence_model.specs.Dependence.{chained, depends_on_any, entries_of}
use Rattle.audit_core.specs.Taking.{AreAllKnown}
use Rattle.audit_core.proofs.dependence.can_go.Given as goal

abbrev pub invariant-loop-rest : goal.invariant-loop-rest
invariant-loop-rest l = record {
  chain : chained (do_conflict l.c) l.step l.found.items (entries_of l.rest) ≡ chained (do_conflict l.c) l.step [] (entries_of l.between);
  free : depends_on_any (do_conflict l.c) l.found.items l.undo ≡ false;
  found_known : AreKnown l.c l.found.items;
  rest_known : AreAllKnown l.c l.rest;
}

abbrev pub decreases-loop-rest : goal.decreases-loop-rest
decreases-loop-rest l = length l.rest
