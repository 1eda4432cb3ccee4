use Rattle.driver_input.proofs.Long.{is_long}
use Rattle.driver_input.proofs.parts.add.Goals as goal

pub returns-in-LongLine-clause-part : goal.returns-in-LongLine-clause-part
returns-in-LongLine-clause-part c = λ bytes left.
    is_long c.args.taken bytes left c.args.scenario.now.items c.args.scenario.now.items c.in-LongLine.is
