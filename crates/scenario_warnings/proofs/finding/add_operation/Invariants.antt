use Rattle.std.proofs.Common.{◌≡◌, ◌-◌, ◌++◌}
use Rattle.std.specs.List.{flat_map}
use Rattle.process_tree.specs.Blocks.{numbers_from}
use Rattle.scenario_warnings.specs.Warnings.{commuting, unused}
use Rattle.scenario_warnings.proofs.finding.add_operation.Given as goal

abbrev pub invariant-loop-b : goal.invariant-loop-b
invariant-loop-b l = l.out.items ++ flat_map (commuting l.c l.a) (numbers_from l.b (l.count - l.b))
    ≡ (l.fn.out.items ++ unused l.plans l.a) ++ flat_map (commuting l.c l.a) (numbers_from l.a (l.count - l.a))
