use Rattle.std.proofs.Common.{w64, arith}
use Rattle.std.specs.Int.{trailing_zeros}
use Rattle.std.proofs.lemmas.Bool.{eqb-false}
use Rattle.std.proofs.lemmas.Nat.Bits.{bit_at-trailing_zeros}
use Rattle.bit_rows.proofs.words.has_none.Goals as goal

pub returns-clause-some : goal.returns-clause-some
returns-clause-some c is =
    let some = eqb-false c.args.word 0 is in
    let lowest = bit_at-trailing_zeros w64 c.args.word (omega (arith, some)) c.ranges.word.fits in
    (trailing_zeros w64 c.args.word, lowest.0, lowest.1)
