use Rattle.std.proofs.Common.{◌≡◌, ◌<◌, ◌≤◌, ◌++◌, ℕ, Bool, true, false, List, length}
use Rattle.process_tree.specs.declared.entry.Entry.{Entry}
use Rattle.process_tree.specs.Conflicts.{do_conflict, operations_in, Access}
use Rattle.process_tree.specs.Order.{Each}
use Rattle.schedule_rules.specs.Applying.{AreKnown}
use Rattle.history_judging.specs.Conflicting.{access_conflicts, is_closed, is_marked, unmarked}
use Rattle.history_judging.proofs.Marks.{led}
use Rattle.history_judging.proofs.circle.spread.Given as goal

abbrev pub invariant-loop-rest : goal.invariant-loop-rest
invariant-loop-rest l = record {
  seen : List Entry;
  split : l.entries ≡ seen ++ l.rest;
  len : length l.marks ≡ length l.fn.marks;
  stay : (k : ℕ) → is_marked l.fn.marks k ≡ true → is_marked l.marks k ≡ true;
  only : (p : ℕ → Bool) → ((k : ℕ) → is_marked l.fn.marks k ≡ true → p k ≡ true) → is_closed (do_conflict l.c) p l.entries ≡ true → (k : ℕ) → is_marked l.marks k ≡ true → p k ≡ true;
  conflicts : (a : Access) → access_conflicts (do_conflict l.c) l.accesses a ≡ true → led (do_conflict l.c) (is_marked l.marks) seen a ≡ true;
  all_conflicts : l.grew ≡ false → (a : Access) → led (do_conflict l.c) (is_marked l.marks) seen a ≡ true → access_conflicts (do_conflict l.c) l.accesses a ≡ true;
  closed : l.grew ≡ false → is_closed (do_conflict l.c) (is_marked l.marks) seen ≡ true;
  fewer : unmarked l.marks ≤ unmarked l.fn.marks;
  more : l.grew ≡ true → unmarked l.marks < unmarked l.fn.marks;
  accesses : Each (λ a. a.op < operations_in l.c) l.accesses;
  known : AreKnown l.c l.rest;
  numbers : Each (λ e. e.process < length l.fn.marks) l.rest;
}

abbrev pub decreases-loop-rest : goal.decreases-loop-rest
decreases-loop-rest l = length l.rest
