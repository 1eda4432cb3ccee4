use Rattle.std.proofs.Common.{arith, length}
use Rattle.scenario_warnings.specs.Warnings.{of_step}
use Rattle.scenario_warnings.proofs.Numbers.{one_more}
use Rattle.scenario_warnings.proofs.finding.add_plan.Goals as goal

pub loop-step-preserved : goal.loop-step-preserved
loop-step-preserved c =
    one_more (of_step c.args.ops.now (length c.args.earlier.now) c.args.plan.now) _ _ _ c.loop-step.step _ (omega arith) c.loop-step.invariant c.in_ok-add_step.ensures
