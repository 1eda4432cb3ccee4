use Rattle.std.proofs.Common.{◌≡◌, ◌∙◌, [], ◌++◌, drop, length, map, codes, ap, sym, subst}
use Rattle.std.specs.List.{filter_map}
use Rattle.std.proofs.lemmas.List.{drop_at}
use Rattle.process_text.specs.Canonical.{line_of}
use Rattle.machine_model.specs.Calls.{next}
use Rattle.process_core.specs.Answers.{answer_in}
use Rattle.process_core.specs.Cores.{CoreState}
use Rattle.process_core.specs.Rotation.{next_reply_of}
use Rattle.schedule_model.specs.declared.history.History.{History}
use Rattle.engine_steps.specs.Engines.{EngineState}
use Rattle.process_report.specs.Lines.{text_of}
use Rattle.session_text.specs.Answers.{next_words, numbered}
use Rattle.session_play.specs.Answering.{IsAnswered}
use Rattle.session_play.specs.Pieces.{AreHandedBy, session_of}
use Rattle.session_play.specs.Playing.{play_next, victim_of}
use Rattle.session_play.proofs.AskedPieces.{all_stay, next_answered, next_handed}
use Rattle.process_engine.specs.Queues.{AreQueued}
use Rattle.process_engine.proofs.QueuedCalls.{queued_at_next}
use Rattle.session_play.proofs.asking.play_next.Goals as goal

pub returns-clause-answered : goal.returns-clause-answered
returns-clause-answered g c =
    let old = c.args.engine.now.core in
    let new = c.next-reply.new.engine.core in
    let core : new ≡ _ = ap (λ (e : EngineState g.row.R.Denot g.row.B.Denot). e.core) c.next-reply.ensures.engine in
    let n = length c.kept-before.result.now in
    let kept : c.split_at.result.1.now ≡ (answer_in old next).kept =
    c.split_at.ensures.back ∙ (ap (drop n) c.kept.ensures ∙ (ap (λ (x : CoreState). drop n x.kept) core ∙ drop_at old.kept (answer_in old next).kept n (ap length (sym c.kept-before.ensures)))) in
    let said = c.in_ok-put_next.ensures ∙ (ap (λ (h : History). c.put_victims.new.out.items ++ line_of (next_words h.plans (next_reply_of c.next-reply.result))) c.history.ensures
    ∙ ap (λ text. text ++ line_of (next_words new.plans (next_reply_of c.next-reply.result)))
    (c.in_ok-put_victims.ensures ∙ (ap (λ text. text ++ text_of (map (numbered (codes "victim")) (filter_map victim_of c.split_at.result.1.now))) c.new-text.ensures.items ∙ ap (λ ks. text_of (map (numbered (codes "victim")) (filter_map victim_of ks))) kept))) in
    λ qs. subst (λ hs. IsAnswered (play_next (session_of old c.args.pieces.now.items qs)) new hs qs c.put_next.new.out.items) (sym c.in_ok-keep_chosen.ensures.kept)
    (next_answered old new c.args.pieces.now.items qs c.next-reply.result c.put_next.new.out.items core c.next-reply.ensures.reply said)

pub returns-clause-handed : goal.returns-clause-handed
returns-clause-handed g c =
    let new = c.next-reply.new.engine.core in
    let goes = c.next-reply.ensures.goes [] in
    subst (AreHandedBy new) (sym c.in_ok-keep_chosen.ensures.kept)
    (next_handed new c.args.pieces.now.items c.next-reply.result (all_stay c.args.engine.now.core new goes.added c.args.pieces.now.items goes.kept c.requires.handed) c.next-reply.ensures.given)

pub returns-clause-queued : goal.returns-clause-queued
returns-clause-queued g c queued was = subst (λ e. AreQueued e queued) (sym c.next-reply.ensures.engine) (queued_at_next c.args.engine.now queued was)
