use Rattle.std.proofs.Common.{◌∙◌, arith}
use Rattle.cascade.proofs.Steps.{found_last, passed_over}
use Rattle.cascade.proofs.undo.last_place.Goals as goal

pub returns-then-net_at-process-clause-place : goal.returns-then-net_at-process-clause-place
returns-then-net_at-process-clause-place c =
    found_last c.args.process c.args.holds.now.net c.places.place c.net_at.result c.places-test.true c.places.invariant.0 c.net_at.ensures.entry c.if-net_at-process.true ∙ c.places.invariant.1

pub places-preserved : goal.places-preserved
places-preserved c =
    let most = c.places.invariant.0 in
    (omega (arith, most), passed_over c.args.process c.args.holds.now.net c.places.place c.net_at.result c.places-test.true c.places.invariant.0 c.net_at.ensures.entry c.if-net_at-process.false ∙ c.places.invariant.1)
