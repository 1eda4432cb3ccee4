use Rattle.std.proofs.Common.{◌∙◌, sym, ap}
use Rattle.core_state.specs.Cores.{courses_in, moment_of, relation}
use Rattle.core_state.specs.Upcoming.{upcoming}
use Rattle.core_state.specs.declared.seats.Upcoming.TheVariants.{Task}
use Rattle.core_state.proofs.SeatReplies.{reply_is}
use Rattle.process_core.specs.Rotation.{piece_in}
use Rattle.process_core.proofs.cores.Core.waits_for.Goals as goal

pub returns-in-Task : goal.returns-in-Task
returns-in-Task c is =
    let v = c.args.self.now in
    ap piece_in (reply_is (courses_in v) (moment_of v) c.args.i (relation v) c.in-Some.ensures.started (Task c.in-Task.todo c.in-Task.tried)
    (ap upcoming (sym c.in-Some.ensures.seat) ∙ (sym c.upcoming.ensures ∙ c.in-Task.is))) ∙ c.is_stopped.ensures is
