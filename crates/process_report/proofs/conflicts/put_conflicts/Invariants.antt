use Rattle.std.proofs.Common.{◌≡◌, ◌≤◌, ◌++◌, ◌-◌, map, flat_map}
use Rattle.process_tree.specs.Blocks.{numbers_from}
use Rattle.process_report.specs.Lines.{text_of}
use Rattle.process_report.specs.Report.{pair_line, conflicting, conflicts_lines}
use Rattle.process_report.proofs.conflicts.put_conflicts.Given as goal

abbrev pub invariant-loop-a : goal.invariant-loop-a
invariant-loop-a l = record {
  within : l.a ≤ l.count;
  lines : l.out.items ++ text_of (flat_map (λ a. map (pair_line l.c a) (conflicting l.c a)) (numbers_from l.a (l.count - l.a)))
      ≡ l.fn.out.items ++ text_of (conflicts_lines l.c);
}

abbrev pub decreases-loop-a : goal.decreases-loop-a
decreases-loop-a l = l.count - l.a
