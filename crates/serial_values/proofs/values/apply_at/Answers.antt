use Rattle.std.proofs.Common.{◌≡◌, ◌≢◌, ◌∙◌, false, take, sym, ap, subst}
use Rattle.std.specs.Prelude.{get_or}
use Rattle.std.proofs.lemmas.List.{take_more}
use Rattle.std.proofs.lemmas.List.Elements.{Contains-get_or}
use Rattle.process_tree.specs.declared.entry.Entry.{Entry}
use Rattle.resource_box.specs.declared.call.Call.{Call}
use Rattle.resource_box.specs.Meaning.{value_at, with_value}
use Rattle.resource_box.specs.Table.{applied, kind_of}
use Rattle.resource_box.proofs.Maps.{ready_changes_no_value}
use Rattle.subsystem_store.specs.declared.effect.Effect.{Effect}
use Rattle.history_files.specs.Effects.{call_of, subsystem_of}
use Rattle.value_replay.proofs.Executed.{value-off}
use Rattle.serial_values.specs.Told.{HasValuesOf}
use Rattle.serial_values.proofs.Applied.{has-applied}
use Rattle.serial_values.proofs.values.apply_at.Goals as goal

pub returns-then-from-q-clause-values : goal.returns-then-from-q-clause-values
returns-then-from-q-clause-values g c =
    let ops = c.args.ops.now in
    let plans = c.args.plans.now in
    let e : Entry = get_or c.args.steps.now c.args.at (record { process = 0; step = 0; op = 0; key = 0; undo = false }) in
    let off : subsystem_of ops e.op ≢ c.args.q = λ is. c.if-from-q.true (c.from.ensures ∙ (c.subsystem_of.ensures ∙ is)) in
    subst (λ es. HasValuesOf ops plans es c.args.q (g.B.Resource.meaning c.args.resource.now).items) (sym (take_more c.args.steps.now c.args.at _ c.requires.there))
    (λ k. c.requires.values k ∙ sym (value-off ops plans (take c.args.at c.args.steps.now) e c.args.q k off))

pub returns-clause-values : goal.returns-clause-values
returns-clause-values g c =
    let ops = c.args.ops.now in
    let plans = c.args.plans.now in
    let e : Entry = get_or c.args.steps.now c.args.at (record { process = 0; step = 0; op = 0; key = 0; undo = false }) in
    let is_step : e.undo ≡ false = c.requires.steps e (Contains-get_or c.args.steps.now c.args.at _ c.requires.there) in
    let on : subsystem_of ops e.op ≡ c.args.q = sym (c.from.ensures ∙ c.subsystem_of.ensures) ∙ c.if-from-q.false in
    let call_is : c.effect_of.result.call ≡ call_of ops plans e = ap (λ (x : Effect). x.call) c.effect_of.ensures in
    let old = (g.B.Resource.meaning c.args.resource.now).items in
    let ready = (g.B.Resource.meaning c.ready.new.self).items in
    let changed =
    c.apply.ensures.changed
    ∙ (ap (λ k. with_value ready c.effect_of.result.call.key (applied k c.effect_of.result.call (value_at ready c.effect_of.result.call.key))) (c.in_ok-ready.ensures.kind ∙ c.requires.kind)
    ∙ ap (λ (x : Call). with_value ready x.key (applied (kind_of c.args.q) x (value_at ready x.key))) call_is) in
    subst (λ es. HasValuesOf ops plans es c.args.q (g.B.Resource.meaning c.apply.new.self).items) (sym (take_more c.args.steps.now c.args.at _ c.requires.there))
    (has-applied ops plans (take c.args.at c.args.steps.now) e c.args.q on is_step old ready (g.B.Resource.meaning c.apply.new.self).items c.requires.values
    (λ k. ap (λ ps. value_at ps k) c.in_ok-ready.ensures.ok ∙ (ready_changes_no_value old c.effect_of.result.call.key k).1) changed)
