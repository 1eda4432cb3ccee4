use Rattle.std.proofs.Common.{◌∙◌}
use Rattle.schedule_model.specs.declared.event.Event.TheVariants.{Start}
use Rattle.engine_steps.proofs.GroupSteps.{one_more_staged}
use Rattle.engine_steps.proofs.group.stage_each.Goals as goal

pub loop-rest-preserved : goal.loop-rest-preserved
loop-rest-preserved g c = record {
  staged = one_more_staged c.args.files.now.journal c.loop-rest.files.journal c.stage_event.new.files.journal c.args.events.now c.loop-rest.rest.now (Start 0) c.in-len1-up.len_at_least c.loop-rest.invariant.staged c.stage_event.ensures.journal;
  same = (c.stage_event.ensures.same.0 ∙ c.loop-rest.invariant.same.0, c.stage_event.ensures.same.1 ∙ c.loop-rest.invariant.same.1);
}
