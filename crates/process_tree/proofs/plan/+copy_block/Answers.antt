use Rattle.std.proofs.Common.{ap, ◌∙◌, map}
use Rattle.std.proofs.lemmas.List.{take_all}
use Rattle.process_tree.specs.Form.{form_of}
use Rattle.process_tree.proofs.Forms.{choice_copied}
use Rattle.process_tree.proofs.plan.+copy_block.Goals as goal

pub returns-after-loop-inner : goal.returns-after-loop-inner
returns-after-loop-inner t c =
    let items = c.deref-inner-items.result.now in
    let all = take_all c.loop-inner.inner-index items c.loop-inner-test.false in
    choice_copied c.args.block.now c.in-Choice.blocks c.loop-inner.copies items c.in_ok-steps.steps c.in-Choice.is c.deref-inner-items.ensures.value c.in_ok-steps.ensures (c.loop-inner.invariant ∙ ap (map form_of) all)
