use Rattle.std.proofs.Common.{◌≡◌, ◌∙◌, ◌<◌, [], ◌∷◌, ◌++◌, ap, subst, arith, length}
use Rattle.schedule_model.specs.declared.event.Event.TheVariants.{Act}
use Rattle.subsystem_store.specs.declared.effect.Effect.{Effect}
use Rattle.store_group.specs.Events.{effects_for}
use Rattle.engine_steps.proofs.ListedEffects.{IsListedSoFar, found_at, length_set, one_more_listed}
use Rattle.engine_steps.proofs.Subsystems.{subsystem_low}
use Rattle.engine_steps.proofs.listing.list_each.Goals as goal
use Rattle.engine_steps.proofs.listing.list_each.Goals.{After-effect_of, After-from}

-- the place is one of the list
within : (c : goal.After-from) → c.from.result < length c.loop-event.group.items
within c =
    let low = subsystem_low c.args.ops.now c.in-Act.entry.op c.requires.good in
    let place = c.from.ensures ∙ c.subsystem_of-q.ensures in
    let count = c.loop-event.invariant.count in
    omega (arith, low, place, count)

-- what is listed there
there : (c : goal.After-effect_of) → c.index_mut.result.now ≡ effects_for c.loop-event.group.items c.from.result
there c = found_at c.loop-event.group.items c.from.result c.index_mut.result.now (within (goal.at.push-requires c).After-from) c.index_mut.ensures.value

-- with the act in front
before : (c : goal.After-effect_of) → IsListedSoFar c.args.ops.now c.args.plans.now c.args.number c.args.events.now c.loop-event.number (Act c.in-Act.entry ∷ c.in-Some.after.now) c.loop-event.group.items
before c = subst (λ es. IsListedSoFar c.args.ops.now c.args.plans.now c.args.number c.args.events.now c.loop-event.number es c.loop-event.group.items)
    (c.in-Some.ensures.cases.0 ∙ ap (λ e. e ∷ c.in-Some.after.now) c.in-Act.is) c.loop-event.invariant.listed

pub index_mut-requires : goal.index_mut-requires
index_mut-requires c = let low = within (goal.at.index_mut-requires c).After-from in omega (arith, low, c.loop-event.group.ok)

pub push-requires : goal.push-requires
push-requires c =
    let here = ap (λ es. length {A = Effect} es) (there c) in
    let room = (before c).room c.from.result in
    omega (arith, here, room)

pub loop-event-preserved-in-Act : goal.loop-event-preserved-in-Act
loop-event-preserved-in-Act c =
    let at = (goal.at.loop-event-preserved-in-Act c).After-effect_of in
    let place = c.from.ensures ∙ c.subsystem_of-q.ensures in
    record {
      count = length_set c.loop-event.group.items c.from.result c.push.new.self ∙ c.loop-event.invariant.count;
      listed = one_more_listed c.args.ops.now c.args.plans.now c.args.number c.args.events.now c.loop-event.number c.in-Act.entry c.in-Some.after.now c.loop-event.group.items c.from.result c.index_mut.result.now c.push.new.self
          place (within (goal.at.loop-event-preserved-in-Act c).After-from) (there at) (c.push.ensures ∙ ap (λ x. c.index_mut.result.now ++ x ∷ []) c.effect_of.ensures) (before at);
      numbers = let longer = ap length c.in-Some.ensures.cases.0 in let numbers = c.loop-event.invariant.numbers in omega (arith, longer, numbers);
    }
