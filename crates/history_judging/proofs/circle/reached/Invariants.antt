use Rattle.std.proofs.Common.{◌≡◌, ◌+◌, ℕ, Bool, cond, true, false, length}
use Rattle.process_tree.specs.Conflicts.{do_conflict}
use Rattle.history_judging.specs.Conflicting.{is_closed, is_marked, unmarked}
use Rattle.history_judging.proofs.circle.reached.Given as goal

abbrev pub invariant-loop-grew : goal.invariant-loop-grew
invariant-loop-grew l = record {
  len : length l.marks.items ≡ l.processes;
  own : is_marked l.marks.items l.process ≡ true;
  only : (p : ℕ → Bool) → p l.process ≡ true → is_closed (do_conflict l.c) p l.entries ≡ true → (k : ℕ) → is_marked l.marks.items k ≡ true → p k ≡ true;
  closed : l.grew ≡ false → is_closed (do_conflict l.c) (is_marked l.marks.items) l.entries ≡ true;
}

abbrev pub decreases-loop-grew : goal.decreases-loop-grew
decreases-loop-grew l = unmarked l.marks.items + cond l.grew 1 0
