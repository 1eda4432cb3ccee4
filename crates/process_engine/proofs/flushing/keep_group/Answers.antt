use Rattle.std.proofs.Common.{◌∙◌, ap, sym, subst}
use Rattle.engine_steps.specs.Engines.{AreAtRest, full_history}
use Rattle.process_engine.proofs.GroupKept.{history_kept}
use Rattle.process_engine.proofs.flushing.keep_group.Goals as goal

pub settle_group-requires : goal.settle_group-requires
settle_group-requires g c =
    let e = c.args.engine.now in
    let new = c.keep_each-group.new.engine in
    let kept = history_kept e.core c.args.pieces.now.items c.requires.unfinished c.requires.distinct c.invariant_holds.ensures.run new.core (ap (λ x. x.core) c.keep_each-group.ensures.engine) in
    record {
      rest = subst (λ x. AreAtRest x.catalog (full_history new.core) x.files (g.R.Rack.disk x.files.rack)) (sym c.keep_each-group.ensures.engine)
          (subst (λ h. AreAtRest e.catalog h e.files (g.R.Rack.disk e.files.rack)) (sym kept) c.requires.committed.rest);
    }

pub returns-clause-history : goal.returns-clause-history
returns-clause-history g c =
    let e = c.args.engine.now in
    ap (λ x. full_history x.core) c.settle_group.ensures
    ∙ history_kept e.core c.args.pieces.now.items c.requires.unfinished c.requires.distinct c.invariant_holds.ensures.run c.keep_each-group.new.engine.core (ap (λ x. x.core) c.keep_each-group.ensures.engine)
