use Rattle.std.proofs.Common.{◌∙◌, sym}
use Rattle.bit_rows.proofs.Columns.{column_seen}
use Rattle.bit_rows.proofs.row.BitRow.is_empty.Goals as goal

pub returns : goal.returns
returns c = record {
  none = λ is k. sym (column_seen c.args.self.now c.self.inside.words k c.self.told c.self.view_is) ∙ c.is_zero.ensures.none is k;
  some = λ is. let at = c.is_zero.ensures.some is in (at.0, at.1, sym (column_seen c.args.self.now c.self.inside.words at.0 c.self.told c.self.view_is) ∙ at.2);
}
