use Rattle.engine_calls.proofs.Goes.{goes_none}
use Rattle.session_run.proofs.command.said_on.Goals as goal

pub returns-in_err-reserve-clause-goes : goal.returns-in_err-reserve-clause-goes
returns-in_err-reserve-clause-goes g c = goes_none g.R.Rack c.args.plans.now c.args.engine.now c.invariant_holds.ensures.run (c.invariant_holds.ensures.each c.requires.ready.settled)
