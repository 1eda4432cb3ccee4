use Rattle.std.proofs.Common.{◌≡◌, ◌≤◌, ◌+◌, ◌||◌, Bool, true, length, vec_capacity, IfSome}
use Rattle.std.specs.List.{list_any}
use Rattle.process_tree.specs.declared.entry.Entry.{Entry}
use Rattle.process_tree.specs.Order.{Each}
use Rattle.hold_tables.specs.Tables.{is_open}
use Rattle.hold_tables.specs.Walks.{steps_under_way}
use Rattle.cascade.specs.Walking.{IsWithin}
use Rattle.cascade.proofs.Gathered.{any_on, left_of, passes}
use Rattle.cascade.proofs.spread.gather.Given as goal

abbrev pub invariant-processes : goal.invariant-processes
invariant-processes l = record {
  opens : IfSome l.next (λ k. is_open l.holds k ≡ true);
  room : IfSome l.next (λ k. length l.running.items ≤ k);
  capacity : vec_capacity l.running ≡ vec_capacity l.fn.running;
  within : Each (IsWithin l.holds.conflicts (l.most + 1)) l.running.items;
  any : (p : Entry → Bool) → (list_any p l.running.items || any_on (passes p) l.next l.holds.processes) ≡ list_any p (steps_under_way l.holds.processes);
}

abbrev pub decreases-processes : goal.decreases-processes
decreases-processes l = left_of l.most l.next
