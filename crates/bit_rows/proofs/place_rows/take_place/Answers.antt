use Rattle.std.proofs.Common.{List, slice_index_or, ap, ◌∙◌}
use Rattle.bit_rows.specs.Cells.{cell_or, place_before}
use Rattle.bit_rows.proofs.Cells.{row_taken}
use Rattle.bit_rows.proofs.place_rows.take_place.Goals as goal

pub returns-clause-cells : goal.returns-clause-cells
returns-clause-cells g c a b =
    c.take_out_place.ensures.cells a b
    ∙ ap (λ (m : List (List _)). cell_or c.args.none m a (place_before c.args.place b)) c.remove.ensures.items
    ∙ ap (λ (r : List _). slice_index_or r (place_before c.args.place b) c.args.none) (row_taken c.args.rows.now.items c.args.place a c.requires.within)
