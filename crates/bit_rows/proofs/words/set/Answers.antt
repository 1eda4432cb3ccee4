use Rattle.bit_rows.proofs.Columns.{column_set}
use Rattle.bit_rows.proofs.words.set.Goals as goal

pub returns : goal.returns
returns c k = column_set c.args.words.now c.args.column c.told-words c.requires k
