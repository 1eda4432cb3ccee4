use Rattle.bit_rows.proofs.Columns.{column_cleared}
use Rattle.bit_rows.proofs.words.clear.Goals as goal

pub returns : goal.returns
returns c k = column_cleared c.args.words.now c.args.column c.told-words c.requires k
