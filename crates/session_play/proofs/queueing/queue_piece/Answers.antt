use Rattle.std.proofs.Common.{rules, ◌≡◌, ◌∙◌, ◌++◌, ap, subst, sym, IfErr}
use Rattle.std.specs.Option.{option_to_list}
use Rattle.process_text.specs.Canonical.{line_of}
use Rattle.schedule_model.specs.declared.history.History.{History}
use Rattle.session_text.specs.Answers.{queue_words}
use Rattle.session_play.specs.declared.cut.Cut.TheVariants.{NoMemory}
use Rattle.session_play.specs.Answering.{IsCut, queue_alone}
use Rattle.session_play.specs.Pieces.{session_of}
use Rattle.session_play.specs.Playing.{SessionState}
use Rattle.session_play.proofs.Outcomes.{err_map}
use Rattle.session_play.proofs.QueuedLines.{plans_after, queued_or_left, queued_state, replies, reply}
use Rattle.session_play.proofs.queueing.queue_piece.Goals as goal

pub returns-in_err-put_queue-clause-cut : goal.returns-in_err-put_queue-clause-cut
returns-in_err-put_queue-clause-cut g c =
    let old = c.args.engine.now in
    let new = c.queue-found.new.engine in
    let alone = queue_alone old.catalog old.core c.args.queued.now c.args.piece.piece c.args.answer in
    let memory : IfErr c.from_residual.result (λ cut. cut ≡ NoMemory) = search rules in
    err_map c.from_residual.result (λ cut. cut ≡ NoMemory) (λ cut. (cut ≡ NoMemory) × IsCut cut alone old.core new.core) memory
    (λ cut is. (
      is,
      subst (λ x. IsCut x alone old.core new.core) (sym is)
          (queued_or_left old new c.args.queued.now c.queue-found.new.queued c.args.piece c.args.answer c.queue-found.result c.queue-found.ensures.queues),
    ))

pub returns-clause-answered : goal.returns-clause-answered
returns-clause-answered g c =
    let old = c.args.engine.now in
    let new = c.queue-found.new.engine in
    let group = c.args.queued.now in
    let rest = c.queue-found.new.queued in
    let d = c.args.piece in
    let found = c.queue-found.result in
    let does = c.queue-found.ensures.queues in
    let state = queued_state old new group rest d c.args.answer found does c.in_ok-put_queue.ensures.found in
    let r = reply old new group rest d c.args.answer in
    record {
      state = ap (λ o. session_of new.core (option_to_list o) rest) c.full_of.ensures ∙ state;
      printed = c.in_ok-put_queue.ensures.told d.piece r (sym c.number.ensures) (sym c.process.ensures) (sym c.step.ensures) (replies old new group rest d c.args.answer found does)
          ∙ (ap (λ text. text ++ line_of (queue_words c.history.result.now.plans d.piece r)) c.new-text.ensures.items
          ∙ (ap (λ (h : History). line_of (queue_words h.plans d.piece r)) c.history.ensures ∙ ap (λ ps. line_of (queue_words ps d.piece r)) (ap (λ (s : SessionState). s.core.plans) state ∙ plans_after old.core d.piece.number r)));
    }
