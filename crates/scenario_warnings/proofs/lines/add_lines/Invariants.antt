use Rattle.std.proofs.Common.{◌≡◌, ◌++◌, take}
use Rattle.std.specs.List.{flat_map}
use Rattle.scenario_warnings.specs.Lines.{line_of}
use Rattle.scenario_warnings.proofs.lines.add_lines.Given as goal

abbrev pub invariant-loop-warning : goal.invariant-loop-warning
invariant-loop-warning l = l.out.items ≡ l.fn.out.items ++ flat_map (line_of l.ops l.plans) (take l.warning-index l.warnings)
