use Rattle.std.proofs.Common.{arith}
use Rattle.bit_rows.proofs.Columns.{columns_joined}
use Rattle.bit_rows.proofs.words.add.Goals as goal

pub returns : goal.returns
returns c =
    let past = c.loop-k-test.false in
    columns_joined c.loop-k.words c.args.words.now c.args.others.now c.loop-k.invariant.0 c.told-words c.told-others
    (λ j less. c.loop-k.invariant.1 j (omega (arith, less, past)))
