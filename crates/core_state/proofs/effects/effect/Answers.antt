use Rattle.std.proofs.Common.{◌∙◌, ap}
use Rattle.hold_tables.specs.Tables.{Tables, is_open}
use Rattle.core_state.proofs.RowChanges.{effect_open, step_open}
use Rattle.core_state.proofs.effects.effect.Goals as goal

pub pend-requires : goal.pend-requires
pend-requires c = record { «open» = ap (λ (t : Tables). is_open t c.args.process) c.effect_step.ensures ∙ step_open c.args.plan.now c.args.process c.args.step c.args.holds.now c.requires.held }

pub pend-requires-in-Undo : goal.pend-requires-in-Undo
pend-requires-in-Undo c = record { «open» = ap (λ (t : Tables). is_open t c.args.process) c.take_effect.ensures ∙ effect_open c.args.process c.args.holds.now c.requires.held }
