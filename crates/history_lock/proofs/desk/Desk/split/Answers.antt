use Rattle.std.proofs.Common.{arith, ap}
use Rattle.history_lock.proofs.Calls.{may_split}
use Rattle.history_lock.proofs.desk.Desk.split.Goals as goal

pub split_seat-other-requires : goal.split_seat-other-requires
split_seat-other-requires g c = (c.requires.desk, omega (arith, c.args.self.now.sized), may_split g.S.Held.stands_for c.args.self.now.table.shared.key.value _ _ c.args.seat.rests c.requires.share)

pub returns-clause-seen : goal.returns-clause-seen
returns-clause-seen g c = let e = c.split_seat-other.ensures in (ap (λ m. m.0.seen) e.2, ap (λ m. m.0.seen) e.4)

pub returns-clause-opening : goal.returns-clause-opening
returns-clause-opening g c = let e = c.split_seat-other.ensures in (ap (λ m. m.0.opening) e.2, ap (λ m. m.0.opening) e.4)

pub returns-clause-places : goal.returns-clause-places
returns-clause-places g c = let e = c.split_seat-other.ensures in (ap (λ m. m.0.places) e.2, ap (λ m. m.0.places) e.4)

pub returns-clause-share : goal.returns-clause-share
returns-clause-share g c = let e = c.split_seat-other.ensures in (ap (λ m. m.0.share) e.2, ap (λ m. m.0.share) e.4)
