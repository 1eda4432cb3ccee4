use Rattle.std.proofs.Common.{◌∙◌, ◌++◌, ap, sym}
use Rattle.scenario_warnings.specs.Warnings.{of_plan}
use Rattle.scenario_warnings.proofs.Turns.{first_of, next_plan}
use Rattle.scenario_warnings.proofs.finding.add_process.Goals as goal

pub returns-in_ok-add_plan : goal.returns-in_ok-add_plan
returns-in_ok-add_plan c =
    let p = c.plan-item.result in
    let found = first_of c.split_at.result.1.now p c.in-len1-up.len_at_least c.plan-item.is in
    next_plan c.args.ops.now c.args.plans.now c.args.process p found.0 c.args.out.now.items c.add_plan.new.out.items
    (sym c.split_at.ensures.back ∙ found.1)
    (c.in_ok-add_plan.ensures ∙ ap (λ earlier. c.args.out.now.items ++ of_plan c.args.ops.now earlier p) c.split_at.ensures.front)
