use Rattle.engine_tests.proofs.Ready.{queued_aborted}
use Rattle.engine_tests.proofs.flushes.complete.Goals as goal

pub returns : goal.returns
returns g c =
    queued_aborted g.B.Resource c.args.engine.now c.abort-answer.new.engine c.args.queued.now c.args.i c.abort-answer.ensures.engine c.abort-answer.ensures.ready c.requires
