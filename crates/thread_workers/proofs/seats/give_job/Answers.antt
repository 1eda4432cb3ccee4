use Rattle.std.proofs.Common.{◌∙◌, refl}
use Rattle.engine_calls.specs.GateAnswers.{counts_of}
use Rattle.thread_workers.proofs.Knowledge.{knows_new, opened_still}
use Rattle.thread_workers.proofs.seats.give_job.Goals as goal

pub returns-clause-job : goal.returns-clause-job
returns-clause-job g c =
    let disk = g.R.Rack.disk in
    let box = g.B.Resource in
    let e = c.split-seat.ensures in
    let theirs = c.split-seat.result.1.place.me.0 in
    let opened = opened_still disk box c.args.seat.place.me.0 theirs e.opening.1 c.requires.opened in
    (_, c.in-Ok.ensures.items, (c.split-seat.result.1, refl, e.desk.1 ∙ c.requires.desk, knows_new disk box g.G.Gate.answers (counts_of g.G.Gate c.args.gate) theirs opened e.places.1), refl, e.share.1, e.opening.1)
