use Rattle.std.proofs.Common.{◌≡◌, Option}
use Rattle.machine_model.specs.Replies.{Handed}
use Rattle.process_engine.specs.declared.gates.Answer.{Answer}
use Rattle.process_engine.specs.declared.gates.Answer.TheVariants.{Done}
use Rattle.engine_calls.specs.GateAnswers.{GateCounts}
use Rattle.shared_engine.specs.Tallies.{IsAnswerTo}
use Rattle.thread_workers.specs.Workers.{HasGot, WorkerKnows}
use Rattle.thread_workers.proofs.working.hand_in_late.Given as goal

abbrev pub invariant-loop : goal.invariant-loop
invariant-loop g l =
    (l.seat.place.table_id ≡ l.initial.seat.place.table_id)
    × (l.seat.place.me.0.opening ≡ l.initial.seat.place.me.0.opening)
    × (l.seat.place.me.0.share ≡ l.initial.seat.place.me.0.share)
    × HasGot l.initial.piece l.seat.place.me.0
    × (l.piece ≡ l.initial.piece)
    × ((answers : Handed → Option Answer) → IsAnswerTo answers l.initial.piece Done → (begun now : GateCounts)
    → WorkerKnows g.R.Rack.disk g.B.Resource answers 0 begun now l.initial.seat.place.me.0
    → WorkerKnows g.R.Rack.disk g.B.Resource answers 0 begun now l.seat.place.me.0)
