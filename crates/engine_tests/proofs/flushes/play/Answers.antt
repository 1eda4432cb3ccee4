use Rattle.engine_tests.proofs.Ready.{none_queued}
use Rattle.engine_tests.proofs.flushes.play.Goals as goal

pub loop-line-init : goal.loop-line-init
loop-line-init g c = none_queued g.B.Resource c.args.engine.now c.args.queued.now c.expect_open.ensures c.requires.none
