use Rattle.std.proofs.Common.{◌∙◌, ◌∷◌, [], ap, sym, subst}
use Rattle.history_files.specs.Standing.{EachFits}
use Rattle.machine_model.specs.Calls.{finish}
use Rattle.process_tree.specs.declared.play.Outcome.TheVariants.{Done}
use Rattle.process_core.specs.Answers.{after_call}
use Rattle.process_journal.specs.Bodies.{with_event}
use Rattle.engine_steps.specs.Engines.{AreAtRest, full_history}
use Rattle.engine_steps.proofs.NextHistory.{history_is}
use Rattle.process_engine.proofs.AloneGroups.{one_group}
use Rattle.process_engine.proofs.finishing.put_alone.Goals as goal

pub put_group-requires-clause-group : goal.put_group-requires-clause-group
put_group-requires-clause-group g c =
    let p = c.args.piece.piece in
    (p ∷ [], one_group c.args.engine.now p c.requires.out c.piece_fits.ensures c.requires.room, ap (λ e. e ∷ []) c.event_of.ensures)

pub settle_group-requires : goal.settle_group-requires
settle_group-requires g c =
    let core = c.args.engine.now.core in
    let p = c.args.piece.piece in
    let e = c.put_group.new.engine in
    let kept = ap (with_event (full_history core)) c.event_of.ensures ∙ sym (history_is core c.invariant_holds.ensures.run p c.requires.out.handed c.requires.out.out) in
    record {
      rest = subst (λ x. AreAtRest x.catalog (full_history x.core) x.files (g.R.Rack.disk x.files.rack)) (sym c.keep_effect-count.ensures.engine)
          (subst (λ k. AreAtRest e.catalog (full_history (after_call k (finish p.number Done))) e.files (g.R.Rack.disk e.files.rack)) (sym c.put_group.ensures.step.core)
          (subst (λ h. AreAtRest e.catalog h e.files (g.R.Rack.disk e.files.rack)) kept c.in_ok-put_group.ensures.committed.rest));
    }

pub returns-clause-fits : goal.returns-clause-fits
returns-clause-fits g c =
    subst (λ x. EachFits g.B.Resource x.files.stores) (sym c.settle_group.ensures)
    (subst (λ x. EachFits g.B.Resource x.files.stores) (sym c.keep_effect-count.ensures.engine) c.put_group.ensures.fits)
