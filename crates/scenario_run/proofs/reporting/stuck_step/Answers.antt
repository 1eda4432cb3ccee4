use Rattle.std.proofs.Common.{◌∙◌}
use Rattle.scenario_run.specs.Reports.{step_due}
use Rattle.scenario_run.proofs.StuckProcess.{exhausted_is, spent, stuck_admits}
use Rattle.scenario_run.proofs.reporting.stuck_step.Goals as goal

pub returns-clause-used_up : goal.returns-clause-used_up
returns-clause-used_up g c = spent c.args.engine.now.core c.args.i c.requires.stuck

pub unreachable-requires : goal.unreachable-requires
unreachable-requires g c =
    let core = c.args.engine.now.core in
    c.in_default.not-Exhausted (step_due core c.args.i)
    (exhausted_is c.admit.result (step_due core c.args.i) (c.admit.ensures.reply ∙ stuck_admits core c.args.i c.requires.stuck))
