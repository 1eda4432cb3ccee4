use Rattle.engine_tests.proofs.Ready.{ready_started}
use Rattle.engine_tests.proofs.beginnings.start.Goals as goal

pub returns : goal.returns
returns g c =
    ready_started g.B.Resource c.args.engine.now c.start.new.self c.start.ensures.stores c.in-Ok.ensures.started.phase c.requires
