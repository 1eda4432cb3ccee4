use Rattle.std.proofs.Common.{length, ap, arith}
use Rattle.process_core.proofs.HandKept.{hand_core, hand_good, hand_idle, hand_kept, hand_known, hand_may, hand_open, hand_plan, hand_room, hand_seat, hand_steps}
use Rattle.process_core.proofs.cores.Core.hand.Goals as goal

pub overflow_sub-place : goal.overflow_sub-place
overflow_sub-place c = (hand_seat c.self.view_is c.self.invariant c.piece.view_is c.requires).0

pub bounds-plans-place : goal.bounds-plans-place
bounds-plans-place c =
    let there = hand_plan c.self.view_is c.self.invariant c.piece.view_is c.requires in
    let low = there.0 in
    let high = there.1 in
    let same = ap length c.as_slice-plans.ensures in
    omega arith

pub come_under_way-requires-clause-open : goal.come_under_way-requires-clause-open
come_under_way-requires-clause-open c = hand_open c.self.view_is c.self.invariant c.piece.view_is c.requires

pub come_under_way-requires-clause-idle : goal.come_under_way-requires-clause-idle
come_under_way-requires-clause-idle c =
    hand_idle c.self.view_is c.self.invariant c.piece.view_is c.requires c.as_slice-plans.result.now c.as_slice-plans.ensures c.index-plans-place.result c.index-plans-place.is

pub come_under_way-requires-clause-good : goal.come_under_way-requires-clause-good
come_under_way-requires-clause-good c =
    (hand_good c.self.view_is c.self.invariant c.piece.view_is c.requires c.as_slice-plans.result.now c.as_slice-plans.ensures c.index-plans-place.result c.index-plans-place.is).tree

pub come_under_way-requires-clause-plan : goal.come_under_way-requires-clause-plan
come_under_way-requires-clause-plan c =
    hand_known c.self.view_is c.self.invariant c.piece.view_is c.requires c.as_slice-plans.result.now c.as_slice-plans.ensures c.index-plans-place.result c.index-plans-place.is

pub come_under_way-requires-clause-steps : goal.come_under_way-requires-clause-steps
come_under_way-requires-clause-steps c =
    hand_steps c.self.view_is c.self.invariant c.piece.view_is c.requires c.as_slice-plans.result.now c.as_slice-plans.ensures c.index-plans-place.result c.index-plans-place.is

pub come_under_way-requires-clause-may : goal.come_under_way-requires-clause-may
come_under_way-requires-clause-may c =
    hand_may c.self.view_is c.self.invariant c.piece.view_is c.requires c.as_slice-plans.result.now c.as_slice-plans.ensures c.index-plans-place.result c.index-plans-place.is

pub index_mut-requires : goal.index_mut-requires
index_mut-requires c =
    let there = hand_seat c.self.view_is c.self.invariant c.piece.view_is c.requires in
    let low = there.0 in
    let high = there.1 in
    omega arith

pub push_reserved-requires : goal.push_reserved-requires
push_reserved-requires c = let room = hand_room c.self.view_is c.self.invariant c.piece.view_is c.requires in omega arith

pub invariant_of-self : goal.invariant_of-self
invariant_of-self c =
    hand_kept c.self.view_is c.self.invariant c.piece.view_is c.requires c.as_slice-plans.result.now c.as_slice-plans.ensures c.index-plans-place.result c.index-plans-place.is
    c.come_under_way.new.holds c.come_under_way.ensures c.push_reserved.new.self.items c.push_reserved.ensures.items
    c.index_mut.result.now _ c.index_mut.ensures.value c.behind-self.view_is _ c.push_reserved.ensures.capacity

pub returns : goal.returns
returns c =
    hand_core c.self.view_is c.self.invariant c.piece.view_is c.requires c.as_slice-plans.result.now c.as_slice-plans.ensures c.index-plans-place.result c.index-plans-place.is
    c.come_under_way.new.holds c.come_under_way.ensures c.push_reserved.new.self.items c.push_reserved.ensures.items
