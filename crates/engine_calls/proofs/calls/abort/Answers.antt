use Rattle.machine_model.specs.Calls.{abort}
use Rattle.process_core.specs.Answers.{after_call}
use Rattle.engine_steps.proofs.SameHistory.{abort_same}
use Rattle.engine_calls.proofs.Ends.{called_goes, still_ready}
use Rattle.engine_calls.proofs.calls.abort.Goals as goal

pub returns-clause-goes : goal.returns-clause-goes
returns-clause-goes g c may_start =
    called_goes g.R.Rack may_start c.args.engine.now c.abort.new.self c.invariant_holds.ensures.run (c.invariant_holds.ensures.each c.requires.ready.settled) (abort c.args.i) c.in-Ok.ensures.engine (abort_same c.args.engine.now.core c.args.i)

pub returns-clause-ready : goal.returns-clause-ready
returns-clause-ready g c = still_ready g.B.Resource c.args.engine.now c.abort.new.self (after_call c.args.engine.now.core (abort c.args.i)) c.in-Ok.ensures.engine c.requires.ready
