use Rattle.std.proofs.Common.{◌≡◌, ◌<◌, ◌||◌, ℕ, length}
use Rattle.std.specs.List.{list_any}
use Rattle.process_tree.specs.Entries.{access_of}
use Rattle.process_tree.specs.Conflicts.{Table, do_conflict, Access}
use Rattle.process_tree.specs.Order.{Each}
use Rattle.history_judging.specs.Conflicting.{access_conflicts}
use Rattle.history_judging.proofs.access.accesses_of.Given as goal

abbrev pub invariant-loop-rest : goal.invariant-loop-rest
invariant-loop-rest l = record {
  conflicts : (table : Table) (a : Access) → (access_conflicts (do_conflict table) l.accesses a || list_any (λ e. do_conflict table (access_of e) a) l.rest)
      ≡ list_any (λ e. do_conflict table (access_of e) a) l.entries;
  known : (n : ℕ) → Each (λ e. e.op < n) l.entries → Each (λ a. a.op < n) l.accesses × Each (λ e. e.op < n) l.rest;
}

abbrev pub decreases-loop-rest : goal.decreases-loop-rest
decreases-loop-rest l = length l.rest
