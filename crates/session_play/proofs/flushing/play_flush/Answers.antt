use Rattle.std.proofs.Common.{rules, ◌≡◌, ◌∙◌, ◌++◌, [], filter, length, map, ap, inr, refl, subst, sym, IfErr, List}
use Rattle.process_report.specs.Lines.{text_of}
use Rattle.machine_model.specs.Groups.{flush_reply}
use Rattle.machine_model.specs.Pieces.{runs}
use Rattle.machine_model.specs.Replies.{Handed}
use Rattle.process_core.specs.Cores.{history_of, moment_of}
use Rattle.process_engine.specs.Pieces.{after_effects}
use Rattle.session_text.specs.Answers.{flush_lines}
use Rattle.session_play.specs.declared.cut.Cut.TheVariants.{NoMemory}
use Rattle.session_play.specs.Answering.{IsCut}
use Rattle.session_play.specs.Pieces.{number_of, session_of}
use Rattle.session_play.specs.Playing.{play_flush}
use Rattle.session_play.proofs.FlushedLines.{running_numbers}
use Rattle.session_play.proofs.Outcomes.{err_map}
use Rattle.session_play.proofs.QueuedLines.{numbers_are, same_session}
use Rattle.session_play.proofs.flushing.play_flush.Goals as goal

pub returns-in_err-put_group-in-Flushed-clause-cut : goal.returns-in_err-put_group-in-Flushed-clause-cut
returns-in_err-put_group-in-Flushed-clause-cut g c =
    let old = c.args.engine.now.core in
    let new = c.flush.new.engine.core in
    let qs = c.args.queued.now in
    let core : new ≡ after_effects old (filter (runs (moment_of old)) (map number_of qs)) =
    c.in-Flushed.ensures.flushes.left.core ∙ ap (after_effects old) (running_numbers (moment_of old) qs) in
    let memory : IfErr c.from_residual.result (λ cut. cut ≡ NoMemory) = search rules in
    err_map c.from_residual.result (λ cut. cut ≡ NoMemory) (λ cut. (pieces : List Handed) → IsCut cut (play_flush (session_of old pieces qs)) old new) memory
    (λ cut is pieces. subst (λ x. IsCut x (play_flush (session_of old pieces qs)) old new) (sym is) (inr core))

pub returns-in_ok-put_group-in-Flushed-clause-answered : goal.returns-in_ok-put_group-in-Flushed-clause-answered
returns-in_ok-put_group-in-Flushed-clause-answered g c pieces =
    let old = c.args.engine.now.core in
    let new = c.flush.new.engine.core in
    let qs = c.args.queued.now in
    let left = c.in-Flushed.ensures.flushes.left in
    let core : new ≡ after_effects old (filter (runs (moment_of old)) (map number_of qs)) =
    left.core ∙ ap (after_effects old) (running_numbers (moment_of old) qs) in
    record {
      state = same_session new (after_effects old (filter (runs (moment_of old)) (map number_of qs))) (map number_of pieces) (map number_of pieces) (map number_of c.flush.new.queued) [] core refl (ap (map number_of) left.none);
      printed = c.in_ok-put_group-in-Flushed.ensures
          ∙ (ap (λ text. text ++ text_of (flush_lines c.in-Flushed.group)) c.new-text.ensures.items
          ∙ ap (λ es. text_of (flush_lines es)) (left.told ∙ ap (flush_reply (moment_of old) (length (history_of old))) (numbers_are qs)));
    }
