use Rattle.std.proofs.Common.{false, slice_index_or, ap, sym, ◌∙◌}
use Rattle.bit_rows.proofs.Columns.{column_of}
use Rattle.bit_rows.proofs.row.BitRow.has.Goals as goal

pub returns : goal.returns
returns c = c.has.ensures ∙ sym (column_of c.self.inside.words c.args.column c.self.told) ∙ ap (λ v. slice_index_or v c.args.column false) c.self.view_is
