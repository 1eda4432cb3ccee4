use Rattle.std.proofs.Common.{subst, sym}
use Rattle.history_files.specs.Standing.{EachFits}
use Rattle.engine_steps.specs.Engines.{EngineState}
use Rattle.process_engine.proofs.Refusals.{refused_finishes}
use Rattle.process_engine.proofs.finishing.finish_refused.Goals as goal

pub returns-clause-finishes : goal.returns-clause-finishes
returns-clause-finishes g c =
    refused_finishes g.R.Rack.disk c.args.engine.now c.refuse_piece.new.self c.args.piece c.refuse_piece.result c.requires.settled c.refuse_piece.ensures.engine c.refuse_piece.ensures.reply
    (c.invariant_holds.ensures.each c.requires.settled) c.refused_as.result c.refused_as.ensures

pub returns-clause-fits : goal.returns-clause-fits
returns-clause-fits g c =
    subst (λ (e : EngineState g.row.R.Denot g.row.B.Denot). EachFits g.B.Resource e.files.stores) (sym c.refuse_piece.ensures.engine) c.requires.fits
