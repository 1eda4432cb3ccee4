use Rattle.std.proofs.Common.{◌∙◌, ap, sym, arith}
use Rattle.core_state.specs.Seats.{SeatState}
use Rattle.core_state.proofs.BegunStarted.{none_began}
use Rattle.core_state.proofs.KeptSeen.{kept_seen, many_seen, seat_seen}
use Rattle.core_state.proofs.Positive.{from_one}
use Rattle.process_core.proofs.cores.Core.began.Goals as goal

pub returns-then-i-eq0 : goal.returns-then-i-eq0
returns-then-i-eq0 c =
    let core = (kept_seen c.self.view_is c.self.invariant).stands.core in
    sym (none_began c.args.self.now core c.args.i (λ bounds. let low = bounds.0 in let zero = c.if-i-eq0.true in absurd (omega arith)))

pub returns-then-place-count : goal.returns-then-place-count
returns-then-place-count c =
    let core = (kept_seen c.self.view_is c.self.invariant).stands.core in
    let many = many_seen c.self.view_is c.self.invariant in
    sym (none_began c.args.self.now core c.args.i (λ bounds. let low = bounds.0 in let high = bounds.1 in let past = c.if-place-count.true in let is = c.len-count.ensures in absurd (omega arith)))

pub returns : goal.returns
returns c =
    let is = c.len-count.ensures in
    let within = c.if-place-count.false in
    let low = from_one c.args.i c.if-i-eq0.false in
    ap (λ (s : SeatState). s.began) (c.behind-self.view_is ∙ seat_seen c.self.view_is c.self.invariant c.args.i low (omega arith) c.index.result.now c.index.ensures)
