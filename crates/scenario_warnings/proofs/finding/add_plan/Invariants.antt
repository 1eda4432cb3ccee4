use Rattle.std.proofs.Common.{◌≡◌, ◌-◌, ◌++◌, length}
use Rattle.std.specs.List.{flat_map}
use Rattle.process_tree.specs.Blocks.{numbers_from}
use Rattle.scenario_warnings.specs.Warnings.{of_step, same_process}
use Rattle.scenario_warnings.proofs.finding.add_plan.Given as goal

abbrev pub invariant-loop-step : goal.invariant-loop-step
invariant-loop-step l = l.out.items ++ flat_map (of_step l.ops (length l.earlier) l.plan) (numbers_from l.step (l.count - l.step))
    ≡ (l.fn.out.items ++ same_process l.earlier l.plan) ++ flat_map (of_step l.ops (length l.earlier) l.plan) (numbers_from 0 l.count)
