use Rattle.bit_rows.proofs.TakenOut.{ones_before}
use Rattle.bit_rows.proofs.taking.low_mask.Goals as goal

pub returns-then-column-k : goal.returns-then-column-k
returns-then-column-k c j = ones_before c.args.k c.args.column j c.if-column-k.true
