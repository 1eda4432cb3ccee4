use Rattle.std.proofs.Common.{◌∙◌, is_some, ap}
use Rattle.std.specs.List.{list_any}
use Rattle.core_state.specs.Seats.{SeatState}
use Rattle.core_state.proofs.KeptSeen.{kept_seen}
use Rattle.process_core.proofs.RunningSeats.{runs_by_seats}
use Rattle.process_core.proofs.cores.Core.is_running.Goals as goal

pub returns : goal.returns
returns c =
    let v = c.args.self.now in
    let core = (kept_seen c.self.view_is c.self.invariant).stands.core in
    let seats = (kept_seen c.self.view_is c.self.invariant).stands.seats in
    c.some_runs.ensures ∙ (ap (list_any (λ (s : SeatState). is_some s.out)) (c.deref.ensures.value ∙ seats) ∙ runs_by_seats v core)
