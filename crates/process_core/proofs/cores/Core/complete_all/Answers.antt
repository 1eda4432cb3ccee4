use Rattle.std.proofs.Common.{◌≡◌, ◌∙◌, ◌+◌, true, length, ap, sym, arith}
use Rattle.std.specs.List.{list_any}
use Rattle.machine_model.specs.Calls.{complete_all}
use Rattle.process_core.specs.Answers.{after_call}
use Rattle.core_state.specs.Beginnings.{can_begin}
use Rattle.core_state.proofs.FewKept.{kept_few}
use Rattle.process_core.proofs.RestartKept.{none_restarted, restart_room, restarted_is, restarted_stands}
use Rattle.core_state.proofs.StandingFacts.{kept_open, seats_few}
use Rattle.process_core.proofs.cores.Core.complete_all.Goals.{After-len}
use Rattle.process_core.proofs.cores.Core.complete_all.Goals as goal

-- some process can begin to complete
can : (c : After-len) → list_any can_begin c.self.inside.seats.items ≡ true
can c = ap (list_any can_begin) (sym c.deref.ensures.value) ∙ (sym c.some_can_begin.ensures ∙ c.if-not-some_can_begin.false)

-- the event is the next to be kept
event_next : (c : After-len) → c.len.result + 1 ≡ length c.self.inside.kept.items + 1
event_next c =
    let is = c.len.ensures in
    let ok = c.self.inside.kept.ok in
    omega arith

pub returns-then-not-some_can_begin : goal.returns-then-not-some_can_begin
returns-then-not-some_can_begin c =
    let none = ap (list_any can_begin) (sym c.deref.ensures.value) ∙ (sym c.some_can_begin.ensures ∙ c.if-not-some_can_begin.true) in
    sym c.self.view_is ∙ (none_restarted c.self.invariant none ∙ ap (λ v. after_call v complete_all) c.self.view_is)

pub overflow_cast-event : goal.overflow_cast-event
overflow_cast-event c =
    let few = kept_few _ c.self.invariant.stands.core in
    let is = c.len.ensures in
    let ok = c.self.inside.kept.ok in
    omega arith

pub overflow_add-event : goal.overflow_add-event
overflow_add-event c =
    let few = kept_few _ c.self.invariant.stands.core in
    let is = c.len.ensures in
    let ok = c.self.inside.kept.ok in
    omega arith

pub begin_each-requires-clause-open : goal.begin_each-requires-clause-open
begin_each-requires-clause-open c = kept_open c.self.invariant

pub begin_each-requires-clause-few : goal.begin_each-requires-clause-few
begin_each-requires-clause-few c = seats_few _ c.self.invariant.stands.core c.self.inside.seats.items c.self.invariant.stands.seats

pub push_reserved-requires : goal.push_reserved-requires
push_reserved-requires c =
    let room = restart_room c.self.invariant (can (goal.at.push_reserved-requires c).After-len) in
    let ok = c.self.inside.kept.ok in
    omega arith

pub invariant_of-self : goal.invariant_of-self
invariant_of-self c =
    restarted_stands c.self.invariant (can (goal.at.invariant_of-self c).After-len) (c.len.result + 1) (event_next (goal.at.invariant_of-self c).After-len) c.begin_each.new.seats.items c.begin_each.new.holds c.push_reserved.new.self.items c.begin_each.ensures.seats c.begin_each.ensures.holds c.push_reserved.ensures.items _ c.push_reserved.ensures.capacity

pub returns : goal.returns
returns c =
    restarted_is c.self.invariant (can (goal.at.returns c).After-len) (c.len.result + 1) (event_next (goal.at.returns c).After-len) c.begin_each.new.seats.items c.begin_each.new.holds c.push_reserved.new.self.items c.begin_each.ensures.seats c.begin_each.ensures.holds c.push_reserved.ensures.items
    ∙ ap (λ v. after_call v complete_all) c.self.view_is
