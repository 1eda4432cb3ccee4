use Rattle.std.proofs.Common.{◌≢◌, ◌+◌, ◌<◌, length, slice_index_or, refl, ap, ◌∙◌, sym, arith, get_or-set_other, length-set}
use Rattle.bit_rows.proofs.Cells.{all_moved, before_below, one_moved, same_item}
use Rattle.bit_rows.proofs.place_rows.take_out.Goals as goal

pub loop-to-init : goal.loop-to-init
loop-to-init g c = ((λ b less. ap (λ k. slice_index_or c.args.row.now k c.args.none) (sym (before_below c.args.place b less))), (λ b past. refl), refl)

pub loop-to-preserved : goal.loop-to-preserved
loop-to-preserved g c =
    let to = c.loop-to.to in
    let wide = c.told-row in
    let same = c.loop-to.invariant.2 in
    let test = c.loop-to-test.true in
    let within : to < length c.loop-to.row = omega (arith, test, wide, same) in
    let next : to + 1 < length c.loop-to.row = omega (arith, test, wide, same) in
    let item = slice_index_or c.loop-to.row (to + 1) c.index-row-to.result in (
      λ b less. one_moved c.args.none c.args.row.now c.loop-to.row item c.args.place to b c.loop-to.auto.to within
          (same_item c.args.none c.loop-to.row (to + 1) c.index-row-to.result next ∙ c.loop-to.invariant.1 (to + 1) (omega arith)) (c.loop-to.invariant.0 b) less,
      (λ b past. let other : b ≢ to = omega (arith, past) in get_or-set_other c.loop-to.row to b item c.args.none other ∙ c.loop-to.invariant.1 b (omega (arith, past))),
      length-set _ _ _ ∙ same,
    )

pub returns : goal.returns
returns g c b =
    let past = c.loop-to-test.false in
    let place = c.requires in
    all_moved c.args.none c.args.row.now c.loop-to.row c.args.place 255 b (omega (arith, place)) c.told-row (c.loop-to.invariant.2 ∙ c.told-row) (λ less. c.loop-to.invariant.0 b (omega (arith, less, past)))
