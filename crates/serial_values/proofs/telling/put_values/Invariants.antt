use Rattle.std.proofs.Common.{◌≡◌, ◌≤◌, ◌-◌, ◌++◌}
use Rattle.std.specs.List.{flat_map}
use Rattle.process_tree.specs.Blocks.{numbers_from}
use Rattle.process_report.specs.Lines.{text_of}
use Rattle.serial_values.specs.Told.{subsystem_lines}
use Rattle.serial_values.proofs.telling.put_values.Given as goal

abbrev pub invariant-loop-q : goal.invariant-loop-q
invariant-loop-q l = record {
  told : l.out.items ++ text_of (flat_map (subsystem_lines l.ops l.plans l.steps) (numbers_from l.q (8 - l.q)))
      ≡ l.fn.out.items ++ text_of (flat_map (subsystem_lines l.ops l.plans l.steps) (numbers_from 0 8));
  within : l.q ≤ 8;
}

abbrev pub decreases-loop-q : goal.decreases-loop-q
decreases-loop-q l = 8 - l.q
