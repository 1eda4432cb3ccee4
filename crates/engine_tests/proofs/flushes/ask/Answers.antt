use Rattle.engine_tests.proofs.Ready.{queued_asked}
use Rattle.engine_tests.proofs.flushes.ask.Goals as goal

pub returns-clause-queue : goal.returns-clause-queue
returns-clause-queue g c =
    queued_asked g.B.Resource c.args.engine.now c.next-reply.new.engine c.args.queued.now c.next-reply.ensures.engine c.next-reply.ensures.ready c.requires
