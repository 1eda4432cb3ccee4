use Rattle.std.proofs.Common.{◌≡◌, ◌++◌, take, drop}
use Rattle.scenario_warnings.specs.Warnings.{of_plans, warnings}
use Rattle.scenario_warnings.proofs.finding.warnings.Given as goal

abbrev pub invariant-loop-process : goal.invariant-loop-process
invariant-loop-process l = l.out.items ++ of_plans l.c.ops (take l.process l.plans) (drop l.process l.plans) ≡ warnings l.c l.plans
