use Rattle.std.proofs.Common.{ap}
use Rattle.std.specs.Prelude.{map, string_bytes}
use Rattle.program_words.specs.Commands.{asked}
use Rattle.process_top.specs.Commands.{at_once}
use Rattle.process_top.proofs.Answered.{answers_as}
use Rattle.process_top.proofs.Unread.{bad_ask_nothing}
use Rattle.process_top.proofs.door.answer.Goals as goal

pub returns-in-Ok : goal.returns-in-Ok
returns-in-Ok g c = answers_as _ _ _ _ _ _ (ap at_once c.in-Ok.ensures.asked) c.answer_to.ensures

pub returns-in-Err : goal.returns-in-Err
returns-in-Err g c =
    let words = asked (map string_bytes c.args.words.now) in
    c.unread.ensures (at_once words) (λ bad. ap at_once (bad_ask_nothing words c.in-Err.why c.in-Err.ensures.asked bad))
