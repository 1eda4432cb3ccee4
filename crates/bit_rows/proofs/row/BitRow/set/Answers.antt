use Rattle.std.proofs.Common.{◌||◌, nat_eq, ap, ◌∙◌}
use Rattle.bit_rows.proofs.Columns.{column_of, column_seen}
use Rattle.bit_rows.proofs.row.BitRow.set.Goals as goal

pub returns : goal.returns
returns c k =
    column_of c.set.new.words k c.set.array_long ∙ c.set.ensures k
    ∙ ap (λ t. nat_eq k c.args.column || t) (column_seen c.args.self.now c.self.inside.words k c.self.told c.self.view_is)
