use Rattle.std.proofs.Common.{◌≡◌, ◌+◌, ◌^◌, ◌≤◌, ◌∙◌, [], ◌∷◌, ◌++◌, append_assoc, ap, sym, subst, arith, vec_len}
use Rattle.process_tree.specs.Order.{Each}
use Rattle.history_lock.specs.Weights.{total}
use Rattle.engine_calls.specs.GateAnswers.{counts_of}
use Rattle.thread_workers.specs.Jobs.{IsReady, all_gates, job_opening, job_share}
use Rattle.thread_workers.proofs.Jobs.{all_gates-snoc, halves}
use Rattle.thread_workers.proofs.Knowledge.{opened_still}
use Rattle.thread_workers.proofs.Lists.{each-snoc, total-snoc}
use Rattle.thread_workers.proofs.seats.give_jobs.Goals as goal

pub give_job-seat-requires-clause-share : goal.give_job-seat-requires-clause-share
give_job-seat-requires-clause-share g c =
    let s = c.loop-gate.seat.place.me.0.share in
    (halves (vec_len c.pop.new.self) s (subst (λ k. 2 ^ k ≤ s) (sym c.in-Some.ensures.len) c.loop-gate.invariant.4)).0

pub give_job-seat-requires-clause-opened : goal.give_job-seat-requires-clause-opened
give_job-seat-requires-clause-opened g c =
    opened_still g.R.Rack.disk g.B.Resource c.args.seat.place.me.0 c.loop-gate.seat.place.me.0 c.loop-gate.invariant.1 c.requires.opened

pub loop-gate-preserved : goal.loop-gate-preserved
loop-gate-preserved g c =
    let inv = c.loop-gate.invariant in
    let e = c.give_job-seat.ensures in
    let p = c.in-Some.ensures in
    let s = c.loop-gate.seat.place.me.0.share in
    let P = IsReady g.R.Rack.disk g.B.Resource g.G.Gate.answers (counts_of g.G.Gate) c.args.desk.now.table.shared.table_id in
    let half = (halves (vec_len c.pop.new.self) s (subst (λ k. 2 ^ k ≤ s) (sym p.len) inv.4)).1 in
    let sum : total job_share c.give_job-seat.new.jobs.items ≡ total job_share c.loop-gate.jobs.items + job_share e.job.0 = ap (total job_share) e.job.1 ∙ total-snoc job_share c.loop-gate.jobs.items e.job.0 in (
      e.desk,
      e.opening ∙ inv.1,
      e.places ∙ inv.2,
      omega (arith, e.share, sum, e.job.4, inv.3),
      omega (arith, half, e.share),
      subst (Each P) (sym e.job.1) (each-snoc P c.loop-gate.jobs.items e.job.0 inv.5 e.job.2),
      omega (arith, e.len, p.len, inv.6),
      omega (arith, e.capacity, inv.7),
      p.capacity ∙ inv.8,
      subst (Each (λ j. job_opening j ≡ c.args.seat.place.me.0.opening)) (sym e.job.1)
          (each-snoc (λ j. job_opening j ≡ c.args.seat.place.me.0.opening) c.loop-gate.jobs.items e.job.0 inv.9 (e.job.5 ∙ inv.1)),
      ap (λ l. c.pop.new.self.items ++ l) (ap all_gates e.job.1 ∙ all_gates-snoc c.loop-gate.jobs.items e.job.0 ∙ ap (λ x. x ∷ all_gates c.loop-gate.jobs.items) e.job.3)
          ∙ (sym (append_assoc c.pop.new.self.items (c.in-Some.gate ∷ []) (all_gates c.loop-gate.jobs.items)) ∙ (ap (λ l. l ++ all_gates c.loop-gate.jobs.items) (sym p.items) ∙ inv.10)),
    )
