use Rattle.std.proofs.Common.{◌/◌, ◌%◌, ◌==◌, slice_index_or, ap}
use Rattle.std.proofs.lemmas.Nat.Bits.{shr_and_one}
use Rattle.bit_rows.specs.Rows.{has_column}
use Rattle.bit_rows.proofs.words.has.Goals as goal

pub returns : goal.returns
unfolding has_column
returns c = ap (λ x. x == 1) (shr_and_one (slice_index_or c.args.words.now (c.args.column / 64) 0) (c.args.column % 64))
