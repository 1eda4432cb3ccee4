use Rattle.process_engine.specs.Finishing.{is_barred, outcome_of}
use Rattle.engine_calls.proofs.Ends.{finish_goes}
use Rattle.engine_calls.proofs.calls.finish.Goals as goal

pub returns-clause-goes : goal.returns-clause-goes
returns-clause-goes g c may_start =
    let end = c.finish_piece-result.ensures in
    finish_goes g.R.Rack may_start c.args.engine.now c.finish_piece-result.new.engine c.invariant_holds.ensures.run (c.invariant_holds.ensures.each c.requires.ready.settled) end.rack.tells end.rack.later end.rack.follow
    c.invariant_holds-2.ensures.run c.args.piece c.requires.handed (outcome_of c.args.answer (is_barred c.args.engine.now c.args.piece.piece)) c.finish_piece-result.result (end.finishes c.requires.ready.settled)
    (λ told settled. c.invariant_holds-2.ensures.each settled told)
