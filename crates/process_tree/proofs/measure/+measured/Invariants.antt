use Rattle.std.proofs.Common.{◌≡◌, ◌≤◌, map, drop}
use Rattle.process_tree.specs.Blocks.{outline}
use Rattle.process_tree.specs.Measures.{joined}
use Rattle.process_tree.proofs.Measured.{measure_of_all}
use Rattle.process_tree.proofs.measure.+measured.Given as goal

-- those before and those that are left are together as large as all
abbrev pub invariant-loop-inner : goal.invariant-loop-inner
invariant-loop-inner l = record {
  together : joined l.all (measure_of_all (map outline (drop l.inner-index l.inner-items))) ≡ joined l.initial.all (measure_of_all (map outline l.inner-items));
  small : l.all.steps ≤ 4294967295;
}
