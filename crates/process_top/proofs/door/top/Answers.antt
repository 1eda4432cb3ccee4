use Rattle.std.proofs.Common.{◌∙◌, ap, subst, sym}
use Rattle.std.specs.Prelude.{Some, map, string_bytes}
use Rattle.program_words.specs.Commands.{asked}
use Rattle.program_words.specs.Forms.{IsInRange}
use Rattle.process_top.proofs.AtOnce.{at_once_is, run_is}
use Rattle.process_top.proofs.Answered.{answers_as}
use Rattle.process_top.proofs.Unread.{bad_ask_nothing}
use Rattle.process_top.proofs.door.top.Goals as goal

pub answer_run-requires-clause-workers : goal.answer_run-requires-clause-workers
answer_run-requires-clause-workers g c =
    λ κs lives. subst IsInRange (run_is c.in-Ok.command c.in-Some.workers (sym c.workers_of.ensures ∙ c.in-Some.is)) c.in-Ok.ensures.range

pub returns-in-Some : goal.returns-in-Some
returns-in-Some g c =
    let is = run_is c.in-Ok.command c.in-Some.workers (sym c.workers_of.ensures ∙ c.in-Some.is) in
    answers_as _ _ _ _ _ _ (c.in-Ok.ensures.asked ∙ ap Some is) c.answer_run.ensures

pub returns-in-None : goal.returns-in-None
returns-in-None g c =
    let is = at_once_is c.in-Ok.command (sym c.workers_of.ensures ∙ c.in-None.is) in
    answers_as _ _ _ _ _ _ (c.in-Ok.ensures.asked ∙ sym is) c.answer_to.ensures

pub returns-in-Err : goal.returns-in-Err
returns-in-Err g c =
    let words = asked (map string_bytes c.args.words.now) in
    c.unread.ensures words (λ bad. bad_ask_nothing words c.in-Err.why c.in-Err.ensures.asked bad)
