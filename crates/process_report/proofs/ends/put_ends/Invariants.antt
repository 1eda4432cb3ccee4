use Rattle.std.proofs.Common.{◌≡◌, ◌≤◌, ◌++◌, ◌+◌, ◌-◌, map}
use Rattle.process_tree.specs.Blocks.{numbers_from}
use Rattle.process_report.specs.Lines.{text_of}
use Rattle.process_report.specs.Report.{end_line, ends_lines}
use Rattle.process_report.proofs.ends.put_ends.Given as goal

abbrev pub invariant-loop-i : goal.invariant-loop-i
invariant-loop-i l = record {
  within : l.i ≤ l.count;
  lines : l.out.items ++ text_of (map (end_line l.h) (numbers_from (l.i + 1) (l.count - l.i))) ≡ l.fn.out.items ++ text_of (ends_lines l.h);
}

abbrev pub decreases-loop-i : goal.decreases-loop-i
decreases-loop-i l = l.count - l.i
