use Rattle.std.proofs.Common.{◌∙◌, ◌<◌, length, ap, sym, arith}
use Rattle.std.specs.List.{sum_by}
use Rattle.schedule_model.specs.Course.{course}
use Rattle.schedule_model.specs.Limits.{need}
use Rattle.core_state.specs.Cores.{CoreState, courses_in}
use Rattle.process_core.specs.declared.limits.Load.{Load}
use Rattle.core_state.proofs.ActiveSums.{active_by_seat, count_more, none_more, plan_operations, seat_with_plan, sum_more}
use Rattle.core_state.proofs.CountsSeen.{active_seen}
use Rattle.core_state.proofs.KeptSeen.{few_seen, kept_seen}
use Rattle.process_core.proofs.cores.Core.load.Goals as goal
use Rattle.process_core.proofs.cores.Core.load.Goals.{After-index, then-is_active, else-is_active}

-- the place is that of a seat
within : (c : After-index) → c.loop-place.place < length c.self.inside.seats.items
within c =
    let ok = c.self.inside.seats.ok in
    let end = c.len-place-end.ensures in
    let test = c.loop-place-test.true in
    omega arith

pub offset_bounds-as_slice-place : goal.offset_bounds-as_slice-place
offset_bounds-as_slice-place c =
    let less = within (goal.at.offset_bounds-as_slice-place c).After-index in
    let few = few_seen c.self.view_is c.self.invariant in
    omega arith

pub bounds-as_slice-place : goal.bounds-as_slice-place
bounds-as_slice-place c =
    let kept = kept_seen c.self.view_is c.self.invariant in
    let less = seat_with_plan c.args.self.now kept.stands.core c.loop-place.place c.self.inside.seats.items kept.stands.seats (within (goal.at.bounds-as_slice-place c).After-index) in
    let same = ap length (c.as_slice.ensures ∙ ap (λ (x : CoreState). x.plans) c.self.view_is) in
    omega arith

pub need-requires : goal.need-requires
need-requires c =
    let kept = kept_seen c.self.view_is c.self.invariant in
    plan_operations c.args.self.now kept.stands.core c.loop-place.place c.self.inside.seats.items kept.stands.seats (within (goal.at.need-requires c).After-index)
    c.as_slice.result.now (c.as_slice.ensures ∙ ap (λ (x : CoreState). x.plans) c.self.view_is) c.index-as_slice-place.result c.index-as_slice-place.is

pub overflow_add-load-then-is_active : goal.overflow_add-load-then-is_active
overflow_add-load-then-is_active c =
    let less = within (goal.at.overflow_add-load-then-is_active c).After-index in
    let few = few_seen c.self.view_is c.self.invariant in
    let before = c.loop-place.invariant.few in
    let one = c.need.ensures.few in
    omega arith

pub loop-place-preserved : goal.loop-place-preserved
loop-place-preserved c =
    let kept = kept_seen c.self.view_is c.self.invariant in
    let v = c.args.self.now in
    let ss = c.self.inside.seats.items in
    let n = c.loop-place.place in
    let less = within (goal.at.loop-place-preserved c).After-index in
    let tells = sym (active_by_seat v kept.stands.core n ss kept.stands.seats less c.index.result.now c.index.ensures) ∙ sym c.is_active.ensures in
    elim c.if-is_active.branch [
      | then-is_active w ↦
          let is = tells ∙ w.if-is_active.true in
          let count = count_more v kept.stands.core n ss kept.stands.seats less is in
          let sum = sum_more v kept.stands.core n ss kept.stands.seats less w.as_slice.result.now (w.as_slice.ensures ∙ ap (λ (x : CoreState). x.plans) c.self.view_is) w.index-as_slice-place.result w.index-as_slice-place.is need is in
          let a = c.loop-place.invariant.active in
          let b = c.loop-place.invariant.needed in
          let f = c.loop-place.invariant.few in
          let g = c.loop-place.invariant.few_active in
          let one = w.need.ensures.need in
          let most = w.need.ensures.few in
          let now = ap (λ (l : Load). l.active) w.load-is in
          let then = ap (λ (l : Load). l.needed) w.load-is in
          record { active = omega arith; needed = omega arith; few = omega arith; few_active = omega arith }
      | else-is_active w ↦
          let same = none_more v kept.stands.core n ss kept.stands.seats less (tells ∙ w.if-is_active.false) in
          let f = c.loop-place.invariant.few in
          let g = c.loop-place.invariant.few_active in
          let now = ap (λ (l : Load). l.active) w.load-is in
          let then = ap (λ (l : Load). l.needed) w.load-is in
          record {
            active = now ∙ (c.loop-place.invariant.active ∙ ap length same);
            needed = then ∙ (c.loop-place.invariant.needed ∙ ap (sum_by (λ i. need (course (courses_in v) i))) same);
            few = omega arith;
            few_active = omega arith;
          }
    ]

pub returns-clause-active : goal.returns-clause-active
returns-clause-active c =
    let ok = c.self.inside.seats.ok in
    let end = c.len-place-end.ensures in
    let past = c.loop-place-test.false in
    let low = c.loop-place.auto.place-end in
    c.loop-place.invariant.active ∙ ap length (active_seen c.self.view_is c.self.invariant c.loop-place.place (omega arith))

pub returns-clause-needed : goal.returns-clause-needed
returns-clause-needed c =
    let ok = c.self.inside.seats.ok in
    let end = c.len-place-end.ensures in
    let past = c.loop-place-test.false in
    let low = c.loop-place.auto.place-end in
    c.loop-place.invariant.needed ∙ ap (sum_by (λ i. need (course (courses_in c.args.self.now) i))) (active_seen c.self.view_is c.self.invariant c.loop-place.place (omega arith))

pub returns-clause-few : goal.returns-clause-few
returns-clause-few c =
    let ok = c.self.inside.seats.ok in
    let end = c.len-place-end.ensures in
    let past = c.loop-place-test.false in
    let low = c.loop-place.auto.place-end in
    let few = few_seen c.self.view_is c.self.invariant in
    let before = c.loop-place.invariant.few in
    omega arith
