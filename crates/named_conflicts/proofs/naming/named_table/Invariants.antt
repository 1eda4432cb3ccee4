use Rattle.std.proofs.Common.{◌≡◌, ◌⊎◌, ◌<◌, ◌≤◌, ℕ, length}
use Rattle.process_tree.specs.Conflicts.{mode_of, operations_in}
use Rattle.process_tree.specs.declared.conflicts.Mode.TheVariants.{Never}
use Rattle.named_conflicts.specs.Under.{named_mode}
use Rattle.named_conflicts.proofs.naming.named_table.Given as goal

-- the rows so far are named
abbrev pub invariant-loop-a : goal.invariant-loop-a
invariant-loop-a l = record {
  all : operations_in l.table ≡ length l.ops;
  named : (x y : ℕ) → x < length l.ops → y < length l.ops → x < l.a → mode_of l.table x y ≡ named_mode l.c l.ops x y;
  others : (x y : ℕ) → length l.ops ≤ x ⊎ length l.ops ≤ y → mode_of l.table x y ≡ Never;
}
