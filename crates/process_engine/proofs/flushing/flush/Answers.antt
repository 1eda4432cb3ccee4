use Rattle.std.proofs.Common.{length, ap, arith}
use Rattle.process_engine.proofs.FewQueued.{few_queued}
use Rattle.process_engine.proofs.flushing.flush.Goals as goal

pub list_events-requires-clause-room : goal.list_events-requires-clause-room
list_events-requires-clause-room g c =
    let none = ap length c.queued.invariant.0 in
    let room = c.queued.invariant.1 in
    let few = few_queued c.args.engine.now c.invariant_holds.ensures.run c.args.queued.now c.requires.queued in
    let same = ap length c.deref.ensures.value in
    let view = ap length c.queued.view_is in
    omega (arith, none, room, few, same, view)
