use Rattle.std.proofs.Common.{ap}
use Rattle.machine_model.specs.Calls.{admit}
use Rattle.process_core.specs.Answers.{after_call}
use Rattle.engine_steps.specs.Engines.{EngineState}
use Rattle.engine_steps.proofs.SameHistory.{admit_same}
use Rattle.engine_calls.proofs.Ends.{called_goes, still_ready}
use Rattle.engine_calls.proofs.HandedPieces.{admitted_so}
use Rattle.engine_calls.proofs.calls.admit.Goals as goal

pub returns-clause-given : goal.returns-clause-given
returns-clause-given g c = admitted_so c.args.engine.now.core c.admit.new.self.core c.invariant_holds-in-Ok.ensures.run c.args.i c.in-Ok.reply (ap (λ (e : EngineState g.row.R.Denot g.row.B.Denot). e.core) c.in-Ok.ensures.engine) c.in-Ok.ensures.reply

pub returns-clause-goes : goal.returns-clause-goes
returns-clause-goes g c may_start =
    called_goes g.R.Rack may_start c.args.engine.now c.admit.new.self c.invariant_holds.ensures.run (c.invariant_holds.ensures.each c.requires.ready.settled) (admit c.args.i) c.in-Ok.ensures.engine (admit_same c.args.engine.now.core c.args.i)

pub returns-clause-ready : goal.returns-clause-ready
returns-clause-ready g c = still_ready g.B.Resource c.args.engine.now c.admit.new.self (after_call c.args.engine.now.core (admit c.args.i)) c.in-Ok.ensures.engine c.requires.ready
