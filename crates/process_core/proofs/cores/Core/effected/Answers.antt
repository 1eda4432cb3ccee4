use Rattle.std.proofs.Common.{◌≡◌, ◌∙◌, ◌-◌, ◌++◌, ◌∷◌, [], length, slice_index_or, slice_set, refl, ap, sym, subst, length-append, arith}
use Rattle.machine_model.specs.declared.kept.Kept.TheVariants.{Effect}
use Rattle.machine_model.specs.Advance.{event_of}
use Rattle.hold_tables.specs.Tables.{is_open, kept_of}
use Rattle.core_state.specs.Cores.{courses_in, moment_of}
use Rattle.core_state.specs.Effects.{HoldsWork, event_told, pending_in, seat_effected, tables_effected}
use Rattle.core_state.specs.Seats.{seat_of}
use Rattle.process_core.proofs.EffectSeen.{effect_core, effect_event, effect_few, effect_holds, effect_kept, effect_open, effect_plan, effect_reply, effect_room, effect_seat, effect_told}
use Rattle.process_core.proofs.cores.Core.effected.Goals.{After-effect, After-effected-pending, After-push, After-push_reserved, After-step}
use Rattle.process_core.proofs.cores.Core.effected.Goals as goal

-- the plan is that of its process
its_plan : (c : After-step) → c.index-as_slice-place.result ≡ slice_index_or c.self.inside.history.plans (c.args.piece.piece.process - 1) c.index-as_slice-place.result
its_plan c =
    let p = c.index-as_slice-place.result in
    c.index-as_slice-place.is ∙ (ap (λ ps. slice_index_or ps (c.process-process.result - 1) p) c.as_slice.ensures ∙ ap (λ i. slice_index_or c.self.inside.history.plans (i - 1) p) c.process-process.ensures)

-- its seat, before and after
seat_told : (c : After-effected-pending) → c.index_mut.result.now ≡ seat_of (courses_in c.args.self.now) (moment_of c.args.self.now) c.args.piece.piece.process
seat_told c =
    let x = c.index_mut.result.now in
    effect_told c.self.view_is c.self.invariant c.args.piece.piece c.requires.handed c.requires.out x (c.index_mut.ensures.value ∙ ap (λ i. slice_index_or c.self.inside.seats.items (i - 1) x) c.process-process.ensures)

seats_now : (c : After-effected-pending) → slice_set c.self.inside.seats.items (c.process-process.result - 1) c.effected-pending.new.self
    ≡ slice_set c.self.inside.seats.items (c.args.piece.piece.process - 1) (seat_effected c.args.piece.piece.work (seat_of (courses_in c.args.self.now) (moment_of c.args.self.now) c.args.piece.piece.process))
seats_now c =
    let d = c.args.piece.piece in
    let ss = c.self.inside.seats.items in
    ap (λ i. slice_set ss (i - 1) c.effected-pending.new.self) c.process-process.ensures
    ∙ ap (slice_set ss (d.process - 1)) (c.effected-pending.ensures.seat ∙ (ap (λ w. seat_effected w c.index_mut.result.now) c.work-work.ensures ∙ ap (seat_effected d.work) (seat_told c)))

-- the tables, the kept events and the history after it
tables_now : (c : After-effect) → c.index_mut.result.now ≡ seat_of (courses_in c.args.self.now) (moment_of c.args.self.now) c.args.piece.piece.process → c.effect.new.holds
    ≡ tables_effected c.index-as_slice-place.result c.args.piece.piece.process c.args.piece.piece.step c.args.piece.piece.work
    (pending_in (seat_effected c.args.piece.piece.work (seat_of (courses_in c.args.self.now) (moment_of c.args.self.now) c.args.piece.piece.process)).instance) c.self.inside.holds
tables_now c seat =
    let d = c.args.piece.piece in
    let p = c.index-as_slice-place.result in
    let ts = c.self.inside.holds in
    let pends : c.effected-pending.result ≡ pending_in (seat_effected d.work (seat_of (courses_in c.args.self.now) (moment_of c.args.self.now) d.process)).instance =
    c.effected-pending.ensures.pending ∙ (ap (λ w. pending_in (seat_effected w c.index_mut.result.now).instance) c.work-work.ensures ∙ ap (λ y. pending_in (seat_effected d.work y).instance) seat) in
    c.effect.ensures
    ∙ (ap (λ i. tables_effected p i c.step.result c.work-work.result c.effected-pending.result ts) c.process-process.ensures
    ∙ (ap (λ b. tables_effected p d.process b c.work-work.result c.effected-pending.result ts) c.step.ensures
    ∙ (ap (λ w. tables_effected p d.process d.step w c.effected-pending.result ts) c.work-work.ensures ∙ ap (λ n. tables_effected p d.process d.step d.work n ts) pends)))

items_now : (c : After-push_reserved) → c.push_reserved.new.self.items ≡ c.self.inside.kept.items ++ Effect c.args.piece.piece.number ∷ []
items_now c = c.push_reserved.ensures.items ∙ ap (λ n. c.self.inside.kept.items ++ Effect n ∷ []) c.number.ensures

events_now : (c : After-push) → c.push.new.self ≡ c.self.inside.history.events ++ event_of (courses_in c.args.self.now) c.args.piece.piece ∷ []
events_now c =
    c.push.ensures ∙ ap (λ e. c.self.inside.history.events ++ e ∷ []) (c.event_told-event.ensures ∙ (ap (λ i. event_told i (kept_of c.self.inside.holds i).running) c.process-process.ensures
    ∙ effect_event c.self.view_is c.self.invariant c.args.piece.piece c.requires.handed c.requires.out))

pub event_told-event-requires : goal.event_told-event-requires
event_told-event-requires c = ap (is_open c.self.inside.holds) c.process-process.ensures ∙ effect_open c.self.view_is c.self.invariant c.args.piece.piece c.requires.handed c.requires.out

pub overflow_sub-place : goal.overflow_sub-place
overflow_sub-place c =
    let low = (effect_seat c.self.view_is c.self.invariant c.args.piece.piece c.requires.handed c.requires.out).0 in
    let is = c.process-process.ensures in
    omega arith

pub index_mut-requires : goal.index_mut-requires
index_mut-requires c =
    let there = effect_seat c.self.view_is c.self.invariant c.args.piece.piece c.requires.handed c.requires.out in
    let low = there.0 in
    let high = there.1 in
    let is = c.process-process.ensures in
    omega arith

pub bounds-as_slice-place : goal.bounds-as_slice-place
bounds-as_slice-place c =
    let there = effect_plan c.self.view_is c.self.invariant c.args.piece.piece c.requires.handed c.requires.out in
    let low = there.0 in
    let high = there.1 in
    let same = ap length c.as_slice.ensures in
    let is = c.process-process.ensures in
    omega arith

pub effect-requires : goal.effect-requires
effect-requires c =
    let d = c.args.piece.piece in
    let p = c.index-as_slice-place.result in
    let held = effect_holds c.self.view_is c.self.invariant d c.requires.handed c.requires.out p (its_plan (goal.at.effect-requires c).After-step) in
    subst (λ i. HoldsWork p i c.step.result c.work-work.result c.self.inside.holds) (sym c.process-process.ensures)
    (subst (λ b. HoldsWork p d.process b c.work-work.result c.self.inside.holds) (sym c.step.ensures)
    (subst (λ w. HoldsWork p d.process d.step w c.self.inside.holds) (sym c.work-work.ensures) held))

pub push_reserved-requires : goal.push_reserved-requires
push_reserved-requires c = let room = effect_room c.self.view_is c.self.invariant c.args.piece.piece c.requires.handed c.requires.out in omega arith

pub push-requires : goal.push-requires
push-requires c = let few = effect_few c.self.view_is c.self.invariant c.args.piece.piece c.requires.handed c.requires.out in (omega arith, omega arith)

pub overflow_cast-result : goal.overflow_cast-result
overflow_cast-result c =
    let few = effect_few c.self.view_is c.self.invariant c.args.piece.piece c.requires.handed c.requires.out in
    let now = ap length (c.as_slice-2.ensures ∙ events_now (goal.at.overflow_cast-result c).After-push) in
    let more = length-append c.self.inside.history.events (event_of (courses_in c.args.self.now) c.args.piece.piece ∷ []) in
    omega arith

pub invariant_of-self : goal.invariant_of-self
invariant_of-self c =
    effect_kept c.self.view_is c.self.invariant c.args.piece.piece c.requires.handed c.requires.out c.index-as_slice-place.result (its_plan (goal.at.invariant_of-self c).After-step)
    c.effect.new.holds (tables_now (goal.at.invariant_of-self c).After-effect (seat_told (goal.at.invariant_of-self c).After-effected-pending)) refl c.push.new.self (events_now (goal.at.invariant_of-self c).After-push)
    c.push_reserved.new.self.items (items_now (goal.at.invariant_of-self c).After-push_reserved) _ (seats_now (goal.at.invariant_of-self c).After-effected-pending) _ c.push_reserved.ensures.capacity

pub returns-clause-core : goal.returns-clause-core
returns-clause-core c =
    effect_core c.self.view_is c.self.invariant c.args.piece.piece c.requires.handed c.requires.out c.index-as_slice-place.result (its_plan (goal.at.returns-clause-core c).After-step)
    c.effect.new.holds (tables_now (goal.at.returns-clause-core c).After-effect (seat_told (goal.at.returns-clause-core c).After-effected-pending)) refl c.push.new.self (events_now (goal.at.returns-clause-core c).After-push)
    c.push_reserved.new.self.items (items_now (goal.at.returns-clause-core c).After-push_reserved)

pub returns-clause-reply : goal.returns-clause-reply
returns-clause-reply c =
    let now = ap length (c.as_slice-2.ensures ∙ events_now (goal.at.returns-clause-reply c).After-push) in
    let more = length-append c.self.inside.history.events (event_of (courses_in c.args.self.now) c.args.piece.piece ∷ []) in
    effect_reply c.self.view_is c.self.invariant c.args.piece.piece c.requires.handed c.requires.out _ (omega arith)
