use Rattle.std.proofs.Common.{arith}
use Rattle.scenario_warnings.specs.Warnings.{of_operation}
use Rattle.scenario_warnings.proofs.Numbers.{one_more}
use Rattle.scenario_warnings.proofs.finding.add_operations.Goals as goal

pub loop-a-preserved : goal.loop-a-preserved
loop-a-preserved c =
    one_more (of_operation c.args.c.now c.args.plans.now) _ _ _ c.loop-a.a _ (omega arith) c.loop-a.invariant c.in_ok-add_operation.ensures
