use Rattle.std.proofs.Common.{◌≡◌, ◌-◌, ◌++◌}
use Rattle.std.specs.List.{flat_map}
use Rattle.process_tree.specs.Blocks.{numbers_from}
use Rattle.scenario_warnings.specs.Warnings.{of_operation}
use Rattle.scenario_warnings.proofs.finding.add_operations.Given as goal

abbrev pub invariant-loop-a : goal.invariant-loop-a
invariant-loop-a l = l.out.items ++ flat_map (of_operation l.c l.plans) (numbers_from l.a (l.count - l.a))
    ≡ l.fn.out.items ++ flat_map (of_operation l.c l.plans) (numbers_from 0 l.count)
