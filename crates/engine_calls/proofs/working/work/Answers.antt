use Rattle.engine_calls.specs.GateAnswers.{asked}
use Rattle.engine_calls.proofs.GateEnds.{end_by_gate}
use Rattle.engine_calls.proofs.working.work.Goals as goal

pub returns-clause-gate : goal.returns-clause-gate
returns-clause-gate g c =
    let told = c.answer_of-answer.ensures in
    end_by_gate g.R.Rack.disk c.args.engine.now c.finish.new.engine c.args.piece (asked g.G.Gate c.args.gate.now c.answer_of-answer.new.gate) c.requires.handed c.answer_of-answer.result told.end told.told
    told.later told.counted c.finish.result c.finish.ensures.finishes
