use Rattle.std.proofs.Common.{◌≡◌, ◌<◌, ◌++◌, ◌&&◌, false, List, length}
use Rattle.std.specs.Prelude.{nat_eq}
use Rattle.std.specs.List.{list_any}
use Rattle.process_tree.specs.Entries.{access_of}
use Rattle.process_tree.specs.declared.entry.Entry.{Entry}
use Rattle.process_tree.specs.Conflicts.{do_conflict, operations_in, Access}
use Rattle.process_tree.specs.Order.{Each}
use Rattle.schedule_rules.specs.Applying.{AreKnown}
use Rattle.history_judging.specs.Conflicting.{access_conflicts, conflicts_in_front}
use Rattle.history_judging.proofs.against.conflicts_in_front.Given as goal

abbrev pub invariant-loop-rest : goal.invariant-loop-rest
invariant-loop-rest l = record {
  seen : List Entry;
  split : l.entries ≡ l.rest ++ seen;
  none : conflicts_in_front (do_conflict l.c) l.process seen ≡ false;
  conflicts : (a : Access) → access_conflicts (do_conflict l.c) l.accesses a ≡ list_any (λ y. nat_eq y.process l.process && do_conflict l.c (access_of y) a) seen;
  known : Each (λ a. a.op < operations_in l.c) l.accesses;
  rest : AreKnown l.c l.rest;
}

abbrev pub decreases-loop-rest : goal.decreases-loop-rest
decreases-loop-rest l = length l.rest
