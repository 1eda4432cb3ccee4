use Rattle.machine_model.specs.Calls.{complete_all}
use Rattle.process_core.specs.Answers.{after_call}
use Rattle.engine_steps.proofs.SameHistory.{complete_all_same}
use Rattle.engine_calls.proofs.Ends.{called_goes, still_ready}
use Rattle.engine_calls.proofs.calls.complete_all.Goals as goal

pub returns-clause-goes : goal.returns-clause-goes
returns-clause-goes g c may_start =
    called_goes g.R.Rack may_start c.args.engine.now c.complete_all.new.self c.invariant_holds.ensures.run (c.invariant_holds.ensures.each c.requires.ready.settled) complete_all c.in-Ok.ensures.engine (complete_all_same c.args.engine.now.core)

pub returns-clause-ready : goal.returns-clause-ready
returns-clause-ready g c = still_ready g.B.Resource c.args.engine.now c.complete_all.new.self (after_call c.args.engine.now.core complete_all) c.in-Ok.ensures.engine c.requires.ready
