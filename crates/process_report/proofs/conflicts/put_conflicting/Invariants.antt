use Rattle.std.proofs.Common.{◌≡◌, ◌≤◌, ◌++◌, ◌-◌, map, filter}
use Rattle.process_tree.specs.Blocks.{numbers_from}
use Rattle.process_tree.specs.Conflicts.{mode_of}
use Rattle.process_report.specs.Lines.{text_of}
use Rattle.process_report.specs.Report.{may_conflict, pair_line, conflicting}
use Rattle.process_report.proofs.conflicts.put_conflicting.Given as goal

abbrev pub invariant-loop-b : goal.invariant-loop-b
invariant-loop-b l = record {
  within : l.b ≤ l.count;
  lines : l.out.items ++ text_of (map (pair_line l.c l.a) (filter (λ b. may_conflict (mode_of l.c.conflicts l.a b)) (numbers_from l.b (l.count - l.b))))
      ≡ l.fn.out.items ++ text_of (map (pair_line l.c l.a) (conflicting l.c l.a));
}

abbrev pub decreases-loop-b : goal.decreases-loop-b
decreases-loop-b l = l.count - l.b
