use Rattle.std.proofs.Common.{◌≡◌, ◌⊎◌, ◌+◌, ◌++◌, ◌≤◌, vec_len, vec_capacity}
use Rattle.process_tree.specs.Order.{Each}
use Rattle.history_lock.specs.Weights.{total}
use Rattle.engine_calls.specs.GateAnswers.{counts_of}
use Rattle.thread_workers.specs.Jobs.{IsDone, IsStoppedBy, all_gates, all_places, job_seen, job_share}
use Rattle.thread_workers.specs.Workers.{IsBeginning}
use Rattle.thread_workers.proofs.Lists.{EachBehind}
use Rattle.thread_workers.proofs.seats.take_all_in.Given as goal

abbrev pub invariant-loop-job : goal.invariant-loop-job
invariant-loop-job g l =
    (l.all.place.table_id ≡ l.fn.desk.table.shared.table_id)
    × (l.all.place.me.0.opening ≡ l.initial.all.place.me.0.opening)
    × (l.all.place.me.0.places ++ all_places l.jobs.items ≡ l.initial.all.place.me.0.places ++ all_places l.initial.jobs.items)
    × (l.all.place.me.0.share + total job_share l.jobs.items ≡ l.initial.all.place.me.0.share + total job_share l.initial.jobs.items)
    × Each (IsDone g.R.Rack.disk g.B.Resource g.G.Gate.answers (counts_of g.G.Gate) l.fn.desk.table.shared.table_id) l.jobs.items
    × (vec_len l.gates + vec_len l.jobs ≡ vec_len l.initial.gates + vec_len l.initial.jobs)
    × (vec_capacity l.initial.gates ≤ vec_capacity l.gates)
    × (IsStoppedBy l.first l.all.place.me.0.places ⊎ (vec_len l.jobs ≡ vec_len l.initial.jobs))
    × EachBehind (λ j. IsBeginning (job_seen j) l.all.place.me.0.seen) l.jobs.items l.initial.jobs.items
    × (l.gates.items ++ all_gates l.jobs.items ≡ l.initial.gates.items ++ all_gates l.initial.jobs.items)

abbrev pub decreases-loop-job : goal.decreases-loop-job
decreases-loop-job g l = goal.left-loop-job g l
