use Rattle.std.proofs.Common.{◌∙◌, sym}
use Rattle.engine_calls.specs.GateAnswers.{counts_of}
use Rattle.thread_workers.proofs.rounds.rounds.Goals as goal

pub round-after-requires-clause-opened : goal.round-after-requires-clause-opened
round-after-requires-clause-opened g c = c.loop.invariant.3.opened

pub loop-preserved : goal.loop-preserved
loop-preserved g c =
    let inv = c.loop.invariant in
    let e = c.round-after.ensures in
    (e.desk ∙ sym c.requires.desk, e.keeps.0 ∙ inv.1, e.keeps.1 ∙ inv.2, e.knows (counts_of g.G.Gate c.args.gate.now) inv.3)

pub returns-in-Some-ended-clause-knows : goal.returns-in-Some-ended-clause-knows
returns-in-Some-ended-clause-knows g c = c.round-after.ensures.knows (counts_of g.G.Gate c.args.gate.now) c.loop.invariant.3
