use Rattle.std.proofs.Common.{◌∙◌, IfOk, Result, sym, subst}
use Rattle.machine_model.specs.Replies.{Handed}
use Rattle.process_engine.specs.declared.gates.Answer.TheVariants.{Done}
use Rattle.process_engine.specs.declared.replies.Queue.{Queue}
use Rattle.worker_gate.specs.declared.alone.RunOutcome.{RunOutcome}
use Rattle.shared_engine.specs.Outcomes.{HandsBack, queue_entry}
use Rattle.shared_engine.specs.Tallies.{IsAnswerTo}
use Rattle.shared_engine.proofs.MadeTurns.{if_map}
use Rattle.thread_workers.specs.Workers.{HasGot, HasStopped, Stops}
use Rattle.thread_workers.proofs.Knowledge.{opened_still}
use Rattle.thread_workers.proofs.working.hand_in_late.Goals as goal

pub try_again-after-requires-clause-opened : goal.try_again-after-requires-clause-opened
try_again-after-requires-clause-opened g c =
    opened_still g.R.Rack.disk g.B.Resource c.args.seat.place.me.0 c.loop.seat.place.me.0 c.loop.invariant.1
    c.requires.opened

pub loop-preserved : goal.loop-preserved
loop-preserved g c =
    let inv = c.loop.invariant in
    let e = c.try_again-after.ensures in
    let d = c.loop.piece in
    let w = c.try_again-after.result.0.place.me.0 in
    let replied = subst (λ (r : Result Queue RunOutcome). IfOk r (HandsBack d Done)) c.in-Ok-Full.is e.back in
    let back = subst (HandsBack d Done) c.in-Ok-Full.field-0-is replied in (
      e.desk ∙ sym c.requires.desk,
      e.keeps.0 ∙ inv.1,
      e.keeps.1 ∙ inv.2,
      subst (λ (q : Handed). HasGot q w) inv.4 e.handed,
      back.0 ∙ inv.4,
      λ answers answered begun now knows.
          e.knows answers (subst (λ (q : Handed). IsAnswerTo answers q Done) (sym inv.4) answered) begun now
          (inv.5 answers answered begun now knows),
    )

pub returns-in-Ok : goal.returns-in-Ok
returns-in-Ok g c =
    let inv = c.loop.invariant in
    let e = c.try_again-after.ensures in
    let n = c.loop.piece.piece.number in
    let w = c.try_again-after.result.0.place.me.0 in
    let entry = queue_entry n Done c.in-Ok.reply in
    let queued = subst (λ (r : Result Queue RunOutcome). IfOk r (λ reply. (o : RunOutcome) → Stops o (queue_entry n Done reply) → HasStopped o w.places))
    c.in-Ok.is e.queued in
    record {
      desk = e.desk;
      keeps = (e.keeps.0 ∙ inv.1, e.keeps.1 ∙ inv.2);
      knows = λ answers answered begun now knows.
          e.knows answers (subst (λ (q : Handed). IsAnswerTo answers q Done) (sym inv.4) answered) begun now
          (inv.5 answers answered begun now knows);
      stopped = if_map c.failure.result (λ o. Stops o entry) (λ o. HasStopped o w.places) queued (c.failure.ensures n Done);
    }

pub returns-in-Err-clause-knows : goal.returns-in-Err-clause-knows
returns-in-Err-clause-knows g c answers answered begun now knows =
    let inv = c.loop.invariant in
    c.try_again-after.ensures.knows answers (subst (λ (q : Handed). IsAnswerTo answers q Done) (sym inv.4) answered) begun now
    (inv.5 answers answered begun now knows)
