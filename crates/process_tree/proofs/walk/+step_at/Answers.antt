use Rattle.std.proofs.Common.{List, get_or, ap, ◌∙◌, arith, length-append}
use Rattle.process_tree.specs.declared.step.Step.{Step}
use Rattle.process_tree.proofs.Choices.{outline-choice}
use Rattle.process_tree.proofs.NthStep.{own_step, found_in, behind, fewer, none_left, steps_in}
use Rattle.process_tree.proofs.walk.+step_at.Goals as goal

pub returns-then-place-own-clause-found : goal.returns-then-place-own-clause-found
returns-then-place-own-clause-found t c =
    let own = c.as_slice-own.ensures in
    own_step c.args.block.now c.args.place c.index-own-place.result (rw (← own) c.if-place-own.true)
    (c.index-own-place.is ∙ ap (λ (xs : List Step). get_or xs c.args.place c.index-own-place.result) own)

pub returns-in-Ok-clause-found : goal.returns-in-Ok-clause-found
returns-in-Ok-clause-found t c =
    let is = outline-choice c.args.block.now c.in-Choice.blocks c.deref-inner-items.result.now c.in-Choice.is c.deref-inner-items.ensures.value in
    rw is (found_in c.deref-inner-items.result.now c.loop-inner.inner-index c.inner-item.result c.loop-inner.left c.in-Ok.step.now _ c.loop-inner-test.true c.inner-item.is c.in-Ok.ensures.found c.loop-inner.invariant.at)

pub loop-inner-preserved : goal.loop-inner-preserved
loop-inner-preserved t c = record {
  at = behind c.deref-inner-items.result.now c.loop-inner.inner-index c.inner-item.result c.loop-inner.left c.in-Err.further _ c.loop-inner-test.true c.inner-item.is c.in-Err.ensures.past c.loop-inner.invariant.at;
  far = omega (arith, fewer c.deref-inner-items.result.now c.loop-inner.inner-index c.inner-item.result c.loop-inner-test.true c.inner-item.is, c.in-Err.ensures.past);
}

pub returns-after-loop-inner-clause-past : goal.returns-after-loop-inner-clause-past
returns-after-loop-inner-clause-past t c =
    let is = outline-choice c.args.block.now c.in-Choice.blocks c.deref-inner-items.result.now c.in-Choice.is c.deref-inner-items.ensures.value in
    rw is (omega (arith, length-append c.args.block.now.steps (steps_in c.deref-inner-items.result.now), none_left c.deref-inner-items.result.now c.loop-inner.inner-index c.loop-inner-test.false))
