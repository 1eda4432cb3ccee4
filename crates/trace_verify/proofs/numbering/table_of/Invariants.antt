use Rattle.std.proofs.Common.{◌≡◌, ◌||◌, length}
use Rattle.process_tree.specs.Conflicts.{Access, operations_in, do_conflict}
use Rattle.trace_verify.specs.Names.{conflicts}
use Rattle.trace_verify.proofs.numbering.table_of.Given as goal

abbrev pub invariant-loop-rest : goal.invariant-loop-rest
invariant-loop-rest l = record {
  pairs : (a b : Access) → (do_conflict l.table a b || conflicts l.rest l.ops a b) ≡ conflicts l.pairs l.ops a b;
  count : operations_in l.table ≡ length l.ops;
}

abbrev pub decreases-loop-rest : goal.decreases-loop-rest
decreases-loop-rest l = length l.rest
