use Rattle.std.proofs.Common.{◌≡◌, ◌≢◌, ◌∙◌, [], Some, arith, sym, subst}
use Rattle.std.specs.List.{slice_get}
use Rattle.std.proofs.lemmas.Option.{slice_get_read}
use Rattle.subsystem_store.specs.Opened.{Fits, account_of}
use Rattle.store_group.specs.Events.{MayTake, TakesEffects}
use Rattle.store_group.proofs.InOrder.{all_changed, none_changed, of_set, one_changed}
use Rattle.store_group.proofs.events.take_effects.Goals as goal

pub loop-place-init : goal.loop-place-init
loop-place-init g c = record { changed = none_changed _ c.args.stores.now.items; fits = c.requires.fits; within = omega arith }

pub take_effect-requires-clause-may : goal.take_effect-requires-clause-may
take_effect-requires-clause-may g c =
    let old = c.loop-place in
    let s = c.index_mut.result.now in
    let at : slice_get old.stores.items old.place ≡ Some s = slice_get_read old.stores.items _ old.place s (omega (arith, c.len.ensures, old.stores.ok)) c.loop-place-test.true c.index_mut.ensures.value in
    let was : slice_get c.args.stores.now.items old.place ≡ Some s = sym (old.invariant.changed.others old.place (omega arith)) ∙ at in
    subst (λ es. es ≢ [] → MayTake s es) (sym c.effects_for.ensures) (c.requires.may old.place s was)

pub take_effect-requires-clause-fits : goal.take_effect-requires-clause-fits
take_effect-requires-clause-fits g c =
    let old = c.loop-place in
    let s = c.index_mut.result.now in
    old.invariant.fits old.place s (slice_get_read old.stores.items _ old.place s (omega (arith, c.len.ensures, old.stores.ok)) c.loop-place-test.true c.index_mut.ensures.value)

pub loop-place-preserved : goal.loop-place-preserved
loop-place-preserved g c =
    let old = c.loop-place in
    let s = c.index_mut.result.now in
    let at : slice_get old.stores.items old.place ≡ Some s = slice_get_read old.stores.items _ old.place s (omega (arith, c.len.ensures, old.stores.ok)) c.loop-place-test.true c.index_mut.ensures.value in
    record {
      changed = one_changed _ old.place c.args.stores.now.items old.stores.items s c.take_effect.new.store at (subst (λ o. TakesEffects o s c.take_effect.new.store) c.effects_for.ensures c.take_effect.ensures.takes) old.invariant.changed;
      fits = of_set (λ t. Fits g.B.Resource (account_of t)) old.stores.items old.place c.take_effect.new.store old.invariant.fits c.take_effect.ensures.fits;
      within = omega (arith, c.loop-place-test.true, c.len.ensures);
    }

pub returns-clause-takes : goal.returns-clause-takes
returns-clause-takes g c = all_changed _ c.loop-place.place c.args.stores.now.items c.loop-place.stores.items (omega (arith, c.loop-place-test.false, c.len.ensures, c.loop-place.stores.ok)) c.loop-place.invariant.changed
