use Rattle.std.proofs.Common.{◌∙◌, ◌++◌, ap, sym}
use Rattle.process_text.specs.Canonical.{line_of}
use Rattle.schedule_model.specs.declared.history.History.{History}
use Rattle.machine_model.specs.Replies.{finish_reply}
use Rattle.process_core.specs.Cores.{CoreState, courses_in, moment_of, relation}
use Rattle.process_engine.specs.Finishing.{outcome_of}
use Rattle.session_text.specs.Answers.{finish_words}
use Rattle.engine_calls.specs.GateAnswers.{is_barred_in}
use Rattle.session_play.proofs.FinishedLines.{finished_core}
use Rattle.session_play.proofs.finishing.finish_piece.Goals as goal

pub returns-clause-core : goal.returns-clause-core
returns-clause-core g c =
    finished_core g.R.Rack.disk c.args.engine.now c.finish-found.new.engine c.args.piece (outcome_of c.args.answer (is_barred_in c.args.engine.now.catalog c.args.engine.now.core c.args.piece.piece))
    c.finish-found.result c.finish-found.ensures.finishes c.in_ok-put_finish.ensures.found.0 c.in_ok-put_finish.ensures.found.1

pub returns-clause-text : goal.returns-clause-text
returns-clause-text g c =
    let old = c.args.engine.now.core in
    let p = c.args.piece.piece in
    let outcome = outcome_of c.args.answer (is_barred_in c.args.engine.now.catalog old p) in
    let reply = finish_reply (relation old) (courses_in old) (moment_of old) p.number outcome in
    let core = finished_core g.R.Rack.disk c.args.engine.now c.finish-found.new.engine c.args.piece outcome c.finish-found.result c.finish-found.ensures.finishes c.in_ok-put_finish.ensures.found.0 c.in_ok-put_finish.ensures.found.1 in
    c.in_ok-put_finish.ensures.told p reply (sym c.number.ensures) (sym c.process.ensures) (sym c.step.ensures) c.finish-found.ensures.finishes.reply
    ∙ (ap (λ text. text ++ line_of (finish_words c.history.result.now.plans p reply)) c.new-text.ensures.items
    ∙ (ap (λ (h : History). line_of (finish_words h.plans p reply)) c.history.ensures ∙ ap (λ (x : CoreState). line_of (finish_words x.plans p reply)) core))
