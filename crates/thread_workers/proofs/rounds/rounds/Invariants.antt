use Rattle.std.proofs.Common.{◌≡◌}
use Rattle.engine_calls.specs.GateAnswers.{counts_of}
use Rattle.thread_workers.specs.Workers.{WorkerKnows}
use Rattle.thread_workers.proofs.rounds.rounds.Given as goal

abbrev pub invariant-loop : goal.invariant-loop
invariant-loop g l =
    (l.seat.place.table_id ≡ l.initial.seat.place.table_id)
    × (l.seat.place.me.0.opening ≡ l.initial.seat.place.me.0.opening)
    × (l.seat.place.me.0.share ≡ l.initial.seat.place.me.0.share)
    × WorkerKnows g.R.Rack.disk g.B.Resource g.G.Gate.answers 0 (counts_of g.G.Gate l.fn.gate) (counts_of g.G.Gate l.gate) l.seat.place.me.0
