use Rattle.std.proofs.Common.{◌∙◌, vec_capacity, sym, arith}
use Rattle.core_state.proofs.KeptSeen.{kept_seen}
use Rattle.core_state.proofs.StandingFacts.{seats_few}
use Rattle.process_core.proofs.StartRooms.{room_is}
use Rattle.process_core.proofs.cores.Core.make_room.Goals as goal

pub start_memory-requires-clause-seats : goal.start_memory-requires-clause-seats
start_memory-requires-clause-seats c =
    let kept = kept_seen c.self.view_is c.self.invariant in
    let few = seats_few c.args.self.now kept.stands.core c.self.inside.seats.items kept.stands.seats in
    let ok = c.self.inside.seats.ok in
    let len = c.len.ensures in
    omega arith

pub returns-clause-room : goal.returns-clause-room
returns-clause-room c =
    let kept = kept_seen c.self.view_is c.self.invariant in
    let memory = c.in-Ok.memory in
    let ok = c.self.inside.seats.ok in
    let len = c.len.ensures in
    let more = c.in-Ok.ensures.seats in
    room_is c.args.self.now c.self.inside.history.events c.self.inside.seats.items c.self.inside.holds c.self.inside.opening c.self.inside.most (vec_capacity c.self.inside.kept) kept
    (record { plan = c.args.plan; kept = memory.most; processes = memory.seats; tables = memory.tables })
    c.requires.good c.requires.known (sym c.start_refusal.ensures ∙ c.in_default.is) c.in-Ok.ensures.most (omega arith) c.in-Ok.ensures.tables
