use Rattle.std.proofs.Common.{◌||◌, false, slice_index_or, ap, ◌∙◌}
use Rattle.bit_rows.specs.Rows.{has_column}
use Rattle.bit_rows.proofs.Columns.{column_of, column_seen}
use Rattle.bit_rows.proofs.row.BitRow.add.Goals as goal

pub returns : goal.returns
returns c k =
    column_of c.add.new.words k c.add.array_long ∙ c.add.ensures k
    ∙ ap (λ t. t || has_column c.other.inside.words k) (column_seen c.args.self.now c.self.inside.words k c.self.told c.self.view_is)
    ∙ ap (λ t. slice_index_or c.args.self.now k false || t) (column_seen c.args.other.now c.other.inside.words k c.other.told c.other.view_is)
