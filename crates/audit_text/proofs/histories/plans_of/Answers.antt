use Rattle.audit_text.proofs.CopiedPlans.{copies_end}
use Rattle.audit_text.proofs.histories.plans_of.Goals as goal

pub returns : goal.returns
returns c = copies_end c.loop-rest.plans.items c.args.log.now.started c.loop-rest.rest.now c.in_default.len_below c.loop-rest.invariant
