use Rattle.std.proofs.Common.{◌∙◌, None, ap, sym, refl}
use Rattle.thread_workers.specs.Jobs.{or_else}
use Rattle.thread_workers.proofs.crew.run_job.Goals as goal

pub returns-in-Some : goal.returns-in-Some
returns-in-Some g c =
    let e = c.rounds-seat.ensures in
    let same = sym c.in-Some.is ∙ c.take.ensures.value in (
      (c.rounds-seat.result.0, c.rounds-seat.result.1, refl, refl, e.desk, e.knows, e.stopped),
      e.keeps.1 ∙ ap (or_else (λ s. s.place.me.0.share) 0) same,
      e.keeps.0 ∙ ap (or_else (λ s. s.place.me.0.opening) None) same,
    )
