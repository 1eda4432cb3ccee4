use Rattle.std.proofs.Common.{◌≡◌, ◌⊎◌, ◌<◌, ◌≤◌, ℕ, length}
use Rattle.process_tree.specs.Conflicts.{mode_of, operations_in}
use Rattle.named_conflicts.specs.Under.{named_mode}
use Rattle.named_conflicts.proofs.naming.name_row.Given as goal

-- the places of the row so far are named, and the pairs that were; others are as before
abbrev pub invariant-loop-b : goal.invariant-loop-b
invariant-loop-b l = record {
  all : operations_in l.table ≡ length l.ops;
  named : (x y : ℕ) → x < length l.ops → y < length l.ops → ((x ≡ l.a) × (y < l.b)) ⊎ (mode_of l.fn.table x y ≡ named_mode l.c l.ops x y)
      → mode_of l.table x y ≡ named_mode l.c l.ops x y;
  others : (x y : ℕ) → length l.ops ≤ x ⊎ length l.ops ≤ y → mode_of l.table x y ≡ mode_of l.fn.table x y;
}
