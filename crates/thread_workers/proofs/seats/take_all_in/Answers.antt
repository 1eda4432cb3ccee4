use Rattle.std.proofs.Common.{◌≡◌, ◌+◌, ◌∙◌, ◌++◌, [], ◌∷◌, append-nil, ap, sym, refl, subst, arith, inl, inr, append_assoc}
use Rattle.process_tree.specs.Order.{Each}
use Rattle.history_lock.specs.Weights.{total}
use Rattle.engine_calls.specs.GateAnswers.{counts_of}
use Rattle.thread_workers.specs.Jobs.{IsDone, all_gates, all_places, job_places, job_seen, job_share}
use Rattle.thread_workers.specs.Workers.{Has, IsBeginning}
use Rattle.thread_workers.proofs.Jobs.{all_gates-snoc, all_places-snoc}
use Rattle.thread_workers.proofs.Lists.{behind_all, behind_none, behind_one, begins_then, each_but_last, has_before, none_left, total-snoc}
use Rattle.thread_workers.proofs.seats.take_all_in.Goals as goal

pub take_in-joined-requires-clause-done : goal.take_in-joined-requires-clause-done
take_in-joined-requires-clause-done g c =
    let P = IsDone g.R.Rack.disk g.B.Resource g.G.Gate.answers (counts_of g.G.Gate) c.args.desk.now.table.shared.table_id in
    (each_but_last P c.pop.new.self.items c.in-Some.job (subst (Each P) c.in-Some.ensures.items c.loop-job.invariant.4)).1

pub loop-job-preserved : goal.loop-job-preserved
loop-job-preserved g c =
    let inv = c.loop-job.invariant in
    let e = c.take_in-joined.ensures in
    let p = c.in-Some.ensures in
    let job = c.in-Some.job in
    let left = c.pop.new.self.items in
    let had = c.loop-job.all.place.me.0.places in
    let P = IsDone g.R.Rack.disk g.B.Resource g.G.Gate.answers (counts_of g.G.Gate) c.args.desk.now.table.shared.table_id in
    let sum : total job_share c.loop-job.jobs.items ≡ total job_share left + job_share job = ap (total job_share) p.items ∙ total-snoc job_share left job in
    let places : all_places c.loop-job.jobs.items ≡ job_places job ++ all_places left = ap all_places p.items ∙ all_places-snoc left job in (
      e.desk,
      e.opening ∙ inv.1,
      ap (λ l. l ++ all_places left) e.places ∙ append_assoc had (job_places job) (all_places left) ∙ ap (λ l. had ++ l) (sym places) ∙ inv.2,
      omega (arith, e.share, sum, inv.3),
      (each_but_last P left job (subst (Each P) p.items inv.4)).0,
      omega (arith, e.gates.0, p.len, inv.5),
      omega (arith, e.gates.1, inv.6),
      inl (c.take_in-joined.result.1, refl, (e.stopped.0, subst (Has e.stopped.0) (sym e.places) (has_before e.stopped.0 had (job_places job) e.stopped.1), e.stopped.2)),
      behind_one (λ j. IsBeginning (job_seen j) c.loop-job.all.place.me.0.seen) (λ j. IsBeginning (job_seen j) c.take_in-joined.result.0.place.me.0.seen) left job c.loop-job.jobs.items _ p.items
          (λ j begins. begins_then (job_seen j) c.loop-job.all.place.me.0.seen c.take_in-joined.result.0.place.me.0.seen begins e.begins.0) e.begins.1 inv.8,
      ap (λ l. l ++ all_gates left) e.gates.2 ∙ (append_assoc c.loop-job.gates.items (job.gate ∷ []) (all_gates left)
          ∙ (ap (λ l. c.loop-job.gates.items ++ l) (sym (ap all_gates p.items ∙ all_gates-snoc left job)) ∙ inv.9)),
    )

pub loop-job-init : goal.loop-job-init
loop-job-init g c = (c.requires.desk, refl, refl, refl, c.requires.done, refl, omega arith, inr refl, behind_none (λ j. IsBeginning (job_seen j) c.args.seat.place.me.0.seen) c.args.jobs.items, refl)

pub returns-clause-begins : goal.returns-clause-begins
returns-clause-begins g c =
    let empty : c.loop-job.jobs.items ≡ [] = none_left c.loop-job.jobs.items (omega (arith, c.in_default.ensures.cases.0, c.loop-job.jobs.ok)) in
    behind_all (λ j. IsBeginning (job_seen j) c.loop-job.all.place.me.0.seen) c.loop-job.jobs.items c.args.jobs.items empty c.loop-job.invariant.8

pub returns-clause-gates : goal.returns-clause-gates
returns-clause-gates g c =
    let inv = c.loop-job.invariant in
    let empty : c.loop-job.jobs.items ≡ [] = none_left c.loop-job.jobs.items (omega (arith, c.in_default.ensures.cases.0, c.loop-job.jobs.ok)) in
    let none = c.in_default.ensures.cases.0 in
    (omega (arith, inv.5, none), inv.6, sym (append-nil c.loop-job.gates.items) ∙ (ap (λ js. c.loop-job.gates.items ++ all_gates js) (sym empty) ∙ inv.9))
