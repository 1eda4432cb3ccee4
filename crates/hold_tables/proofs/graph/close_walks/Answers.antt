use Rattle.std.proofs.Common.{length, ap, ◌∙◌}
use Rattle.hold_tables.specs.Counts.{arrow_at}
use Rattle.bit_rows.specs.Cells.{cell}
use Rattle.hold_tables.proofs.Closed.{closed_over}
use Rattle.hold_tables.proofs.graph.close_walks.Goals as goal

pub returns : goal.returns
returns c =
    let counts = c.args.counts.now in
    let set = c.copy_from.ensures in
    let marked = c.bits.ensures in
    closed_over (length counts) (arrow_at counts) c.copy_from.new.self c.close.new.walks (ap length set ∙ marked.0)
    (λ a b from to. ap (λ m. cell m a b) set ∙ marked.1 a b) c.close.ensures
