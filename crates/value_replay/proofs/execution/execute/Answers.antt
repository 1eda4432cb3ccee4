use Rattle.std.proofs.Common.{◌≡◌, ◌∙◌, ◌++◌, false, [], ◌∷◌, length, ◌<◌, sym, ap, subst, arith, take, Some, w64, rules, FitsSigned}
use Rattle.std.specs.Prelude.{get_or, slice_set}
use Rattle.std.specs.List.{slice_get}
use Rattle.std.proofs.lemmas.Int.{to_z-of_z}
use Rattle.std.proofs.lemmas.List.{take_more}
use Rattle.std.proofs.lemmas.List.Elements.{Contains-get_or}
use Rattle.std.proofs.lemmas.Option.{slice_get-get_or}
use Rattle.process_tree.specs.declared.entry.Entry.{Entry}
use Rattle.resource_box.specs.declared.call.Call.{Call}
use Rattle.resource_box.specs.Meaning.{value_at, with_value}
use Rattle.resource_box.specs.Table.{applied, kind_of}
use Rattle.resource_box.proofs.Maps.{ready_changes_no_value}
use Rattle.subsystem_store.specs.declared.effect.Effect.{Effect}
use Rattle.history_files.specs.Effects.{call_of, key_of, subsystem_of}
use Rattle.history_files.proofs.Clearing.{map-set}
use Rattle.value_replay.specs.Replays.{HaveValues, books, lines_behind}
use Rattle.value_replay.proofs.Executed.{has-after, has-before, lines-more}
use Rattle.value_replay.proofs.Places.{as-many, box-kind}
use Rattle.value_replay.proofs.execution.execute.Goals as goal

pub returns-clause-line : goal.returns-clause-line
returns-clause-line g c =
    let e : Entry = get_or c.args.serial.now c.args.at (record { process = 0; step = 0; op = 0; key = 0; undo = false }) in
    let is_step : e.undo ≡ false = c.requires.steps e (Contains-get_or c.args.serial.now c.args.at _ c.requires.there) in
    let on : subsystem_of c.args.ops.now e.op ≡ c.from-place.result = sym (c.from-place.ensures ∙ c.subsystem_of.ensures) in
    let low = c.requires.places e.op in
    let many = as-many g.B.Resource.sort c.args.boxes.now.items c.requires.boxes in
    let within : c.from-place.result < length c.args.boxes.now.items = omega (arith, on, low, many) in
    let there : slice_get c.args.boxes.now.items c.from-place.result ≡ Some c.index_mut-resource.result.now =
    slice_get-get_or c.args.boxes.now.items c.from-place.result _ within ∙ ap Some (sym c.index_mut-resource.ensures.value) in
    let key_is : c.effect_of.result.call.key ≡ key_of c.args.plans.now e.process e.step = ap (λ (x : Effect). x.call.key) c.effect_of.ensures in
    let fits : FitsSigned w64 c.apply-before.result = search rules in
    let met =
    c.apply-before.ensures.before
    ∙ (ap (λ ps. value_at ps c.effect_of.result.call.key) c.in_ok-ready.ensures.ok
    ∙ ((ready_changes_no_value (g.B.Resource.meaning c.index_mut-resource.result.now).items c.effect_of.result.call.key c.effect_of.result.call.key).1
    ∙ (ap (value_at (g.B.Resource.meaning c.index_mut-resource.result.now).items) key_is
    ∙ has-before (λ b. (g.B.Resource.meaning b).items) c.args.ops.now c.args.plans.now (take c.args.at c.args.serial.now) e c.args.boxes.now.items c.from-place.result
    c.index_mut-resource.result.now c.apply-before.new.self on is_step there c.requires.values))) in
    ap (lines_behind c.args.ops.now c.args.plans.now []) (take_more c.args.serial.now c.args.at _ c.requires.there)
    ∙ (lines-more c.args.ops.now c.args.plans.now [] (take c.args.at c.args.serial.now) e
    ∙ ap (λ v. lines_behind c.args.ops.now c.args.plans.now [] (take c.args.at c.args.serial.now) ++ (record { entry = e; before = v }) ∷ [])
    (sym (to_z-of_z w64 c.apply-before.result fits ∙ met)))

pub returns-clause-values : goal.returns-clause-values
returns-clause-values g c =
    let e : Entry = get_or c.args.serial.now c.args.at (record { process = 0; step = 0; op = 0; key = 0; undo = false }) in
    let is_step : e.undo ≡ false = c.requires.steps e (Contains-get_or c.args.serial.now c.args.at _ c.requires.there) in
    let on : subsystem_of c.args.ops.now e.op ≡ c.from-place.result = sym (c.from-place.ensures ∙ c.subsystem_of.ensures) in
    let low = c.requires.places e.op in
    let many = as-many g.B.Resource.sort c.args.boxes.now.items c.requires.boxes in
    let within : c.from-place.result < length c.args.boxes.now.items = omega (arith, on, low, many) in
    let there : slice_get c.args.boxes.now.items c.from-place.result ≡ Some c.index_mut-resource.result.now =
    slice_get-get_or c.args.boxes.now.items c.from-place.result _ within ∙ ap Some (sym c.index_mut-resource.ensures.value) in
    let call_is : c.effect_of.result.call ≡ call_of c.args.ops.now c.args.plans.now e = ap (λ (x : Effect). x.call) c.effect_of.ensures in
    let ready = (g.B.Resource.meaning c.ready.new.self).items in
    let kind : g.B.Resource.sort c.ready.new.self ≡ kind_of c.from-place.result =
    c.in_ok-ready.ensures.kind ∙ box-kind g.B.Resource.sort c.args.boxes.now.items c.from-place.result c.index_mut-resource.result.now c.requires.boxes there (omega (arith, on, low)) in
    let changed =
    c.apply-before.ensures.changed
    ∙ (ap (λ k. with_value ready c.effect_of.result.call.key (applied k c.effect_of.result.call (value_at ready c.effect_of.result.call.key))) kind
    ∙ ap (λ (x : Call). with_value ready x.key (applied (kind_of c.from-place.result) x (value_at ready x.key))) call_is) in
    subst (λ es. HaveValues (λ b. (g.B.Resource.meaning b).items) (books c.args.ops.now c.args.plans.now es) (slice_set c.args.boxes.now.items c.from-place.result c.apply-before.new.self))
    (sym (take_more c.args.serial.now c.args.at _ c.requires.there))
    (has-after (λ b. (g.B.Resource.meaning b).items) c.args.ops.now c.args.plans.now (take c.args.at c.args.serial.now) e c.args.boxes.now.items c.from-place.result
    c.index_mut-resource.result.now c.apply-before.new.self on is_step there c.requires.values ready
    (λ k. ap (λ ps. value_at ps k) c.in_ok-ready.ensures.ok ∙ (ready_changes_no_value (g.B.Resource.meaning c.index_mut-resource.result.now).items c.effect_of.result.call.key k).1)
    changed)

pub returns-clause-kinds : goal.returns-clause-kinds
returns-clause-kinds g c =
    let on = sym (c.from-place.ensures ∙ c.subsystem_of.ensures) in
    let low = c.requires.places (get_or c.args.serial.now c.args.at (record { process = 0; step = 0; op = 0; key = 0; undo = false })).op in
    let many = as-many g.B.Resource.sort c.args.boxes.now.items c.requires.boxes in
    map-set g.B.Resource.sort c.args.boxes.now.items c.from-place.result c.apply-before.new.self c.index_mut-resource.result.now (omega (arith, on, low, many))
    (c.apply-before.ensures.kind ∙ (c.in_ok-ready.ensures.kind ∙ ap g.B.Resource.sort c.index_mut-resource.ensures.value))
    ∙ c.requires.boxes
