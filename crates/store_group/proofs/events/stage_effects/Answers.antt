use Rattle.std.proofs.Common.{◌≡◌, ◌≢◌, ◌∙◌, [], Some, arith, sym, subst}
use Rattle.std.specs.List.{slice_get}
use Rattle.std.proofs.lemmas.Option.{slice_get_read}
use Rattle.store_group.specs.Events.{MayPrepare, StagesEffects}
use Rattle.store_group.proofs.InOrder.{all_changed, none_changed, one_changed}
use Rattle.store_group.proofs.events.stage_effects.Goals as goal

pub loop-place-init : goal.loop-place-init
loop-place-init g c = record { changed = none_changed _ c.args.stores.now.items; within = omega arith }

pub stage_effect-requires : goal.stage_effect-requires
stage_effect-requires g c =
    let old = c.loop-place in
    let s = c.index_mut.result.now in
    let at : slice_get old.stores.items old.place ≡ Some s = slice_get_read old.stores.items _ old.place s (omega (arith, c.len.ensures, old.stores.ok)) c.loop-place-test.true c.index_mut.ensures.value in
    let was : slice_get c.args.stores.now.items old.place ≡ Some s = sym (old.invariant.changed.others old.place (omega arith)) ∙ at in
    record { may = subst (λ es. es ≢ [] → MayPrepare s es) (sym c.effects_for.ensures) (c.requires.may old.place s was) }

pub loop-place-preserved : goal.loop-place-preserved
loop-place-preserved g c =
    let old = c.loop-place in
    let s = c.index_mut.result.now in
    let at : slice_get old.stores.items old.place ≡ Some s = slice_get_read old.stores.items _ old.place s (omega (arith, c.len.ensures, old.stores.ok)) c.loop-place-test.true c.index_mut.ensures.value in
    record {
      changed = one_changed _ old.place c.args.stores.now.items old.stores.items s c.stage_effect.new.store at (subst (λ o. StagesEffects o s c.stage_effect.new.store) c.effects_for.ensures c.stage_effect.ensures) old.invariant.changed;
      within = omega (arith, c.loop-place-test.true, c.len.ensures);
    }

pub returns : goal.returns
returns g c = all_changed _ c.loop-place.place c.args.stores.now.items c.loop-place.stores.items (omega (arith, c.loop-place-test.false, c.len.ensures, c.loop-place.stores.ok)) c.loop-place.invariant.changed
