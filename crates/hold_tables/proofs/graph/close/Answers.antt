use Rattle.std.proofs.Common.{◌<◌, length, arith}
use Rattle.hold_tables.proofs.Closed.{all_passed, none_passed, one_passed}
use Rattle.hold_tables.proofs.graph.close.Goals as goal

pub loop-place-init : goal.loop-place-init
loop-place-init c = none_passed c.args.walks.now

pub loop-place-preserved : goal.loop-place-preserved
loop-place-preserved c =
    let test = c.loop-place-test.true in
    let len = c.len-place-end.ensures in
    let at : c.loop-place.place < length c.args.walks.now = omega (arith, test, len) in
    one_passed c.loop-place.place c.args.walks.now c.loop-place.walks c.pass.new.self c.requires.few at c.loop-place.invariant c.pass.ensures

pub returns : goal.returns
returns c =
    let past = c.loop-place-test.false in
    let len = c.len-place-end.ensures in
    all_passed c.loop-place.place c.args.walks.now c.loop-place.walks (omega (arith, past, len)) c.loop-place.invariant
