use Rattle.std.proofs.Common.{◌≡◌, drop}
use Rattle.process_tree.specs.Conflicts.{operations_in, no_conflicts}
use Rattle.commute_table.specs.Document.{with_pairs}
use Rattle.commute_table.proofs.pairs.with_pairs.Given as goal

-- the pairs so far stand in the table, and those that are left are still to be put in
abbrev pub invariant-loop-pair : goal.invariant-loop-pair
invariant-loop-pair l = record {
  same : with_pairs l.conflicts (drop l.pair-index l.pairs) ≡ with_pairs (no_conflicts l.count) l.pairs;
  of_all : operations_in l.conflicts ≡ l.count;
}
