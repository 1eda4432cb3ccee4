use Rattle.std.proofs.Common.{[], ext_get_or, arith}
use Rattle.bit_rows.proofs.rows.copy_all.Goals as goal

pub returns : goal.returns
returns c =
    let past = c.loop-place-test.false in
    let same = c.loop-place.auto.rows in
    ext_get_or [] c.loop-place.rows c.args.others.now c.loop-place.invariant.0 (λ a less. c.loop-place.invariant.1 a (omega (arith, less, past, same)))
