use Rattle.std.proofs.Common.{◌∙◌, arith, ap, length}
use Rattle.process_core.proofs.FewEvents.{few_events}
use Rattle.engine_steps.proofs.engines.Engine.next_effect.Goals as goal

pub acts_count-number-requires : goal.acts_count-number-requires
acts_count-number-requires g c =
    let few = few_events c.self.inside.core c.run_holds.ensures in
    let is = ap length (c.as_slice.ensures ∙ c.history-history.ensures.events) in
    omega (arith, few, is)
