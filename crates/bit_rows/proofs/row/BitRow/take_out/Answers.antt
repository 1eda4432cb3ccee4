use Rattle.std.proofs.Common.{◌∙◌}
use Rattle.bit_rows.specs.Cells.{place_before}
use Rattle.bit_rows.proofs.Columns.{column_of, column_seen}
use Rattle.bit_rows.proofs.row.BitRow.take_out.Goals as goal

pub returns : goal.returns
returns c k =
    column_of c.take_out.new.words k c.take_out.array_long ∙ c.take_out.ensures k
    ∙ column_seen c.args.self.now c.self.inside.words (place_before c.args.column k) c.self.told c.self.view_is
