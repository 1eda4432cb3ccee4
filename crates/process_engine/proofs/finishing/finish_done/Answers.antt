use Rattle.std.proofs.Common.{◌∙◌, sym, subst}
use Rattle.process_engine.specs.Finishing.{Finishes}
use Rattle.process_engine.proofs.DonePieces.{fails, succeeds}
use Rattle.process_engine.proofs.finishing.finish_done.Goals as goal

pub returns-then-bars-clause-finishes : goal.returns-then-bars-clause-finishes
returns-then-bars-clause-finishes g c =
    subst (λ o. Finishes g.R.Rack.disk c.args.engine.now c.finish_refused.new.engine c.args.piece o c.finish_refused.result)
    (sym (fails c.args.engine.now c.args.piece c.requires.out (sym c.bars.ensures ∙ c.if-bars.true))) c.finish_refused.ensures.finishes

pub returns-clause-finishes : goal.returns-clause-finishes
returns-clause-finishes g c =
    subst (λ o. Finishes g.R.Rack.disk c.args.engine.now c.finish_effect.new.engine c.args.piece o c.finish_effect.result)
    (sym (succeeds c.args.engine.now c.args.piece c.requires.out (sym c.bars.ensures ∙ c.if-bars.false))) c.finish_effect.ensures.finishes
