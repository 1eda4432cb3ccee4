use Rattle.engine_calls.proofs.GroupCalls.{flush_goes}
use Rattle.engine_calls.proofs.groups.flush.Goals as goal

pub returns-clause-goes : goal.returns-clause-goes
returns-clause-goes g c may_start =
    let rack = c.flush-result.ensures.rack in
    flush_goes g.R.Rack may_start c.args.engine.now c.flush-result.new.engine c.invariant_holds.ensures.run (c.invariant_holds.ensures.each c.requires.ready.settled) rack.tells rack.later rack.follow
    c.args.queued.now c.flush-result.new.queued c.requires.queued c.invariant_holds-2.ensures.run c.flush-result.result (c.flush-result.ensures.flushes c.requires.ready.settled)
    (λ told settled. c.invariant_holds-2.ensures.each settled told)
