use Rattle.std.proofs.Common.{◌∙◌, sym, ap}
use Rattle.core_state.specs.Cores.{courses_in, moment_of, relation}
use Rattle.core_state.specs.Upcoming.{upcoming}
use Rattle.core_state.specs.declared.seats.Upcoming.TheVariants.{Ended, Running, UsedUp, Task}
use Rattle.core_state.proofs.SeatReplies.{reply_is}
use Rattle.process_core.proofs.cores.Core.reply_of.Goals as goal

pub returns-in-Ended : goal.returns-in-Ended
returns-in-Ended c =
    let v = c.args.self.now in
    sym (reply_is (courses_in v) (moment_of v) c.args.i (relation v) c.in-Some.ensures.started Ended (ap upcoming (sym c.in-Some.ensures.seat) ∙ (sym c.upcoming.ensures ∙ c.in-Ended.is)))

pub returns-in-Running : goal.returns-in-Running
returns-in-Running c =
    let v = c.args.self.now in
    sym (reply_is (courses_in v) (moment_of v) c.args.i (relation v) c.in-Some.ensures.started Running (ap upcoming (sym c.in-Some.ensures.seat) ∙ (sym c.upcoming.ensures ∙ c.in-Running.is)))

pub returns-in-UsedUp : goal.returns-in-UsedUp
returns-in-UsedUp c =
    let v = c.args.self.now in
    sym (reply_is (courses_in v) (moment_of v) c.args.i (relation v) c.in-Some.ensures.started (UsedUp c.in-UsedUp.step) (ap upcoming (sym c.in-Some.ensures.seat) ∙ (sym c.upcoming.ensures ∙ c.in-UsedUp.is)))

pub returns-in-Task : goal.returns-in-Task
returns-in-Task c =
    let v = c.args.self.now in
    c.by_rules.ensures ∙ sym (reply_is (courses_in v) (moment_of v) c.args.i (relation v) c.in-Some.ensures.started (Task c.in-Task.todo c.in-Task.tried) (ap upcoming (sym c.in-Some.ensures.seat) ∙ (sym c.upcoming.ensures ∙ c.in-Task.is)))
