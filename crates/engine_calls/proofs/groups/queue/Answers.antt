use Rattle.engine_calls.proofs.GroupCalls.{queue_goes}
use Rattle.engine_calls.proofs.groups.queue.Goals as goal

pub returns-clause-goes : goal.returns-clause-goes
returns-clause-goes g c may_start =
    queue_goes g.R.Rack may_start c.args.engine.now c.queue.new.engine c.invariant_holds.ensures.run (c.invariant_holds.ensures.each c.requires.ready.settled) c.args.queued.now c.queue.new.queued
    c.args.piece c.args.answer c.queue.result (c.queue.ensures.queues c.requires.ready.settled)
