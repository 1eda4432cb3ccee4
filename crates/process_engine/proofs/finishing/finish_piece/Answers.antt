use Rattle.std.proofs.Common.{◌∙◌, refl, sym}
use Rattle.process_engine.specs.Finishing.{is_barred, outcome_of}
use Rattle.process_engine.proofs.BarredPieces.{is_dropped, is_over}
use Rattle.process_engine.proofs.finishing.finish_piece.Goals as goal

pub returns-in-Dropped-clause-finishes : goal.returns-in-Dropped-clause-finishes
returns-in-Dropped-clause-finishes g c settled =
    is_dropped g.R.Rack.disk c.args.engine.now c.args.engine.now c.args.piece c.requires.handed (c.invariant_holds.ensures.each settled) (outcome_of c.args.answer (is_barred c.args.engine.now c.args.piece.piece)) c.in-Dropped.event
    (sym c.state.ensures ∙ c.in-Dropped.is) refl

pub returns-in-Over-clause-finishes : goal.returns-in-Over-clause-finishes
returns-in-Over-clause-finishes g c settled =
    is_over g.R.Rack.disk c.args.engine.now c.args.engine.now c.args.piece c.requires.handed (c.invariant_holds.ensures.each settled) (outcome_of c.args.answer (is_barred c.args.engine.now c.args.piece.piece))
    (sym c.state.ensures ∙ c.in-Over.is) refl
