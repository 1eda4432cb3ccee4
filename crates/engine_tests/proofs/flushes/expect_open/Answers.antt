use Rattle.engine_tests.proofs.Ready.{ready_for_runs}
use Rattle.engine_tests.proofs.flushes.expect_open.Goals as goal

pub returns : goal.returns
returns g c = ready_for_runs g.B.Resource c.args.engine.now c.requires c.in-Ok.ensures.open
