use Rattle.std.proofs.Common.{◌≡◌, ◌+◌, ◌^◌, ◌≤◌, ◌++◌, vec_len, vec_capacity}
use Rattle.process_tree.specs.Order.{Each}
use Rattle.history_lock.specs.Weights.{total}
use Rattle.engine_calls.specs.GateAnswers.{counts_of}
use Rattle.thread_workers.specs.Jobs.{IsReady, all_gates, job_opening, job_share}
use Rattle.thread_workers.proofs.seats.give_jobs.Given as goal

abbrev pub invariant-loop-gate : goal.invariant-loop-gate
invariant-loop-gate g l =
    (l.seat.place.table_id ≡ l.fn.desk.table.shared.table_id)
    × (l.seat.place.me.0.opening ≡ l.initial.seat.place.me.0.opening)
    × (l.seat.place.me.0.places ≡ l.initial.seat.place.me.0.places)
    × (l.seat.place.me.0.share + total job_share l.jobs.items ≡ l.initial.seat.place.me.0.share)
    × (2 ^ vec_len l.gates ≤ l.seat.place.me.0.share)
    × Each (IsReady g.R.Rack.disk g.B.Resource g.G.Gate.answers (counts_of g.G.Gate) l.fn.desk.table.shared.table_id) l.jobs.items
    × (vec_len l.jobs + vec_len l.gates ≡ vec_len l.initial.gates)
    × (vec_len l.initial.gates ≤ vec_capacity l.jobs)
    × (vec_capacity l.gates ≡ vec_capacity l.initial.gates)
    × Each (λ j. job_opening j ≡ l.initial.seat.place.me.0.opening) l.jobs.items
    × (l.gates.items ++ all_gates l.jobs.items ≡ l.initial.gates.items)

abbrev pub decreases-loop-gate : goal.decreases-loop-gate
decreases-loop-gate g l = goal.left-loop-gate g l
