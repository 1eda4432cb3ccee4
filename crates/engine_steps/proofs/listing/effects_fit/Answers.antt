use Rattle.std.proofs.Common.{◌≡◌, ◌∙◌, true, [], subst, sym}
use Rattle.std.specs.List.{All}
use Rattle.std.proofs.lemmas.List.{get_or_default}
use Rattle.subsystem_store.specs.declared.effect.Effect.{Effect}
use Rattle.subsystem_store.specs.Bodies.{is_amount}
use Rattle.engine_steps.proofs.listing.effects_fit.Goals as goal

pub each_fits-requires : goal.each_fits-requires
each_fits-requires c =
    let group = c.args.group.now in
    let place = c.loop-place.place in
    let is = c.as_slice.ensures ∙ c.index-group-place.is ∙ get_or_default group place c.index-group-place.result [] c.loop-place-test.true in
    subst (All (λ (e : Effect). is_amount e.call.amount ≡ true)) (sym is) (c.requires place)
