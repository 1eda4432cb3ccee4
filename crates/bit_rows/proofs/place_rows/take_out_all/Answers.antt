use Rattle.std.proofs.Common.{◌≢◌, List, [], slice_index_or, ap, ◌∙◌, arith, get_or-set_other}
use Rattle.bit_rows.specs.Cells.{cell_or, place_before}
use Rattle.bit_rows.proofs.Cells.{all_rows, one_row_more, past_rows}
use Rattle.bit_rows.proofs.place_rows.take_out_all.Goals as goal

pub loop-row-preserved : goal.loop-row-preserved
loop-row-preserved g c = (
  λ a b less. one_row_more c.args.none (λ k. cell_or c.args.none c.args.rows.now k (place_before c.args.place b)) c.loop-row.rows c.take_out.new.row c.loop-row.row-index a b
      (let test = c.loop-row-test.true in rw c.loop-row.auto.rows test)
      (c.take_out.ensures b ∙ ap (λ (r : List _). slice_index_or r (place_before c.args.place b) c.args.none) (c.loop-row.invariant.1 c.loop-row.row-index (omega arith))) (c.loop-row.invariant.0 a b) less,
  λ a past.
      let other : a ≢ c.loop-row.row-index = omega (arith, past) in
      get_or-set_other c.loop-row.rows c.loop-row.row-index a c.take_out.new.row [] other ∙ c.loop-row.invariant.1 a (omega (arith, past)),
)

pub returns : goal.returns
returns g c a b =
    all_rows c.args.none (λ k. cell_or c.args.none c.args.rows.now k (place_before c.args.place b)) c.args.rows.now c.loop-row.rows c.loop-row.row-index a b c.loop-row.auto.rows c.loop-row-test.false
    (past_rows c.args.none c.args.rows.now a (place_before c.args.place b)) (c.loop-row.invariant.0 a b)
