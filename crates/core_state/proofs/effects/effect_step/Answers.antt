use Rattle.std.proofs.Common.{◌∙◌, ◌<◌, ap, sym, subst}
use Rattle.process_tree.specs.Conflicts.{operations_in}
use Rattle.process_tree.specs.Order.{Each}
use Rattle.hold_tables.specs.Tables.{OpenProcess, Tables, is_open, kept_of}
use Rattle.core_state.proofs.RowChanges.{effect_open, effect_row}
use Rattle.core_state.proofs.effects.effect_step.Goals as goal

pub fix_and_reserve-requires-clause-held : goal.fix_and_reserve-requires-clause-held
fix_and_reserve-requires-clause-held c = ap (λ (t : Tables). is_open t c.args.process) c.take_effect.ensures ∙ effect_open c.args.process c.args.holds.now c.requires.held

pub fix_and_reserve-requires-clause-idle : goal.fix_and_reserve-requires-clause-idle
fix_and_reserve-requires-clause-idle c = ap (λ (t : Tables). (kept_of t c.args.process).running) c.take_effect.ensures ∙ ap (λ (r : OpenProcess). r.running) (effect_row c.args.process c.args.holds.now c.requires.held)

pub fix_and_reserve-requires-clause-steps : goal.fix_and_reserve-requires-clause-steps
fix_and_reserve-requires-clause-steps c =
    ap (λ (t : Tables). (kept_of t c.args.process).steps) c.take_effect.ensures ∙ (ap (λ (r : OpenProcess). r.steps) (effect_row c.args.process c.args.holds.now c.requires.held) ∙ c.requires.steps)

pub fix_and_reserve-requires-clause-known : goal.fix_and_reserve-requires-clause-known
fix_and_reserve-requires-clause-known c = subst (λ (t : Tables). Each (λ op. op < operations_in t.conflicts) c.args.plan.now.ops) (sym c.take_effect.ensures) c.requires.known
