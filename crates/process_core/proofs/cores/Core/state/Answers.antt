use Rattle.std.proofs.Common.{◌≡◌, ◌∙◌, ◌-◌, slice_index_or, ap, arith}
use Rattle.core_state.specs.Cores.{courses_in, moment_of}
use Rattle.core_state.specs.Seats.{SeatState, seat_of, state_by}
use Rattle.core_state.proofs.KeptSeen.{kept_seen, many_seen}
use Rattle.core_state.proofs.SeatFacts.{handed_has_plan, seat_is, seat_tells}
use Rattle.process_core.proofs.cores.Core.state.Goals as goal

pub overflow_sub-process : goal.overflow_sub-process
overflow_sub-process c =
    let core = (kept_seen c.self.view_is c.self.invariant).stands.core in
    let bounds = handed_has_plan c.args.self.now core c.args.piece.now.piece c.requires in
    let low = bounds.0 in
    let is = c.process.ensures in
    omega arith

pub index-seat-requires : goal.index-seat-requires
index-seat-requires c =
    let core = (kept_seen c.self.view_is c.self.invariant).stands.core in
    let bounds = handed_has_plan c.args.self.now core c.args.piece.now.piece c.requires in
    let low = bounds.0 in
    let high = bounds.1 in
    let is = c.process.ensures in
    let many = many_seen c.self.view_is c.self.invariant in
    omega arith

pub returns : goal.returns
returns c =
    let v = c.args.self.now in
    let p = c.args.piece.now.piece in
    let core = (kept_seen c.self.view_is c.self.invariant).stands.core in
    let bounds = handed_has_plan v core p c.requires in
    let seats = (kept_seen c.self.view_is c.self.invariant).stands.seats in
    let seat : c.index-seat.result.now ≡ seat_of (courses_in v) (moment_of v) p.process =
    c.index-seat.ensures ∙ (ap (λ k. slice_index_or c.self.inside.seats.items (k - 1) c.index-seat.result.now) c.process.ensures ∙ seat_is v c.self.inside.seats.items p.process c.index-seat.result.now seats bounds.0 bounds.1) in
    c.state.ensures ∙ (ap (λ (s : SeatState). state_by s c.number.result) seat ∙ (ap (state_by (seat_of (courses_in v) (moment_of v) p.process)) c.number.ensures ∙ seat_tells v core p c.requires))
