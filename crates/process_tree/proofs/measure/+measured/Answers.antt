use Rattle.std.proofs.Common.{arith, ap, ◌∙◌, sym, length}
use Rattle.process_tree.specs.Measures.{clipped, odd_number}
use Rattle.process_tree.proofs.Choices.{outline-choice}
use Rattle.process_tree.proofs.Measured.{joined-next, measure_of-choice}
use Rattle.process_tree.proofs.measure.+measured.Goals as goal

pub loop-inner-preserved : goal.loop-inner-preserved
loop-inner-preserved t c = record {
  together = joined-next _ c.loop-inner.all c.joined-all.result c.measured.result c.inner-item.result c.deref-inner-items.result.now c.loop-inner.inner-index c.loop-inner-test.true c.inner-item.is c.measured.ensures c.joined-all.ensures c.loop-inner.invariant.together;
  small = let e = ap (λ m. m.steps) c.joined-all.ensures in omega arith;
}

pub returns-after-loop-inner : goal.returns-after-loop-inner
returns-after-loop-inner t c =
    let own = c.args.block.now.steps in
    let blocks = c.deref-inner-items.result.now in
    let is = outline-choice c.args.block.now c.in-Choice.blocks blocks c.in-Choice.is c.deref-inner-items.ensures.value in
    measure_of-choice c.loop-inner.all _ c.args.block.now own blocks c.loop-inner.inner-index c.clipped-own.result c.odd_number.result c.loop-inner-test.false c.loop-inner.invariant.small c.saturating_add.ensures
    (c.clipped-own.ensures ∙ ap (λ s. clipped (length s)) c.as_slice.ensures)
    (c.odd_number.ensures ∙ ap odd_number (c.len.ensures ∙ sym c.deref-inner-items.ensures.len))
    is c.loop-inner.invariant.together
