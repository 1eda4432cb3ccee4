use Rattle.std.proofs.Common.{arith}
use Rattle.core_state.proofs.KeptSeen.{kept_seen, many_seen, seat_seen}
use Rattle.core_state.proofs.Positive.{from_one}
use Rattle.core_state.proofs.SeatReplies.{has_started, never_started}
use Rattle.process_core.proofs.cores.Core.seat.Goals as goal

pub returns-then-i-eq0-clause-none : goal.returns-then-i-eq0-clause-none
returns-then-i-eq0-clause-none c none =
    let core = (kept_seen c.self.view_is c.self.invariant).stands.core in
    never_started c.args.self.now core c.args.i (λ bounds. let low = bounds.0 in let zero = c.if-i-eq0.true in absurd (omega arith))

pub returns-then-place-count-clause-none : goal.returns-then-place-count-clause-none
returns-then-place-count-clause-none c none =
    let core = (kept_seen c.self.view_is c.self.invariant).stands.core in
    let many = many_seen c.self.view_is c.self.invariant in
    never_started c.args.self.now core c.args.i (λ bounds. let low = bounds.0 in let high = bounds.1 in let past = c.if-place-count.true in let is = c.len-count.ensures in absurd (omega arith))

pub returns-clause-seat : goal.returns-clause-seat
returns-clause-seat c =
    let is = c.len-count.ensures in
    let within = c.if-place-count.false in
    let low = from_one c.args.i c.if-i-eq0.false in
    seat_seen c.self.view_is c.self.invariant c.args.i low (omega arith) c.index.result.now c.index.ensures

pub returns-clause-started : goal.returns-clause-started
returns-clause-started c =
    let v = c.args.self.now in
    let core = (kept_seen c.self.view_is c.self.invariant).stands.core in
    let many = many_seen c.self.view_is c.self.invariant in
    let is = c.len-count.ensures in
    let within = c.if-place-count.false in
    has_started v core c.args.i (from_one c.args.i c.if-i-eq0.false) (omega arith)
