use Rattle.std.proofs.Common.{◌∙◌}
use Rattle.process_text.proofs.Printed.{inner_named, inner_words, choice_named, choice_words}
use Rattle.process_text.proofs.printing.+print_block.Goals as goal

pub loop-inner-preserved : goal.loop-inner-preserved
loop-inner-preserved t c =
    let items = c.deref-inner-items.result.now in
    let i = c.loop-inner.inner-index in
    let b = c.inner-item.result in
    record {
      named = λ rest. c.loop-inner.invariant.named (inner_named c.loop-inner.first items i b c.loop-inner-test.true c.inner-item.is c.in_ok-print_block-in-Choice.ensures.named rest);
      words = inner_words c.loop-inner.first items i b c.loop-inner.out.items c.divide.new.out.items c.print_block.new.out.items c.loop-inner-test.true c.inner-item.is
          c.in_ok-divide-in-Choice.ensures c.in_ok-print_block-in-Choice.ensures.words
          ∙ c.loop-inner.invariant.words;
    }

pub returns-in_ok-print_mark-in-Choice-2-clause-named : goal.returns-in_ok-print_mark-in-Choice-2-clause-named
returns-in_ok-print_mark-in-Choice-2-clause-named t c =
    choice_named c.args.block.now c.in-Choice.blocks c.deref-inner-items.result.now c.loop-inner.inner-index c.loop-inner.first c.in-Choice.is c.deref-inner-items.ensures.value c.loop-inner-test.false
    (rw (← c.as_slice.ensures) c.in_ok-print_steps.ensures.named) c.loop-inner.invariant.named

pub returns-in_ok-print_mark-in-Choice-2-clause-words : goal.returns-in_ok-print_mark-in-Choice-2-clause-words
returns-in_ok-print_mark-in-Choice-2-clause-words t c =
    choice_words c.args.block.now c.in-Choice.blocks c.deref-inner-items.result.now c.loop-inner.inner-index c.loop-inner.first
    c.args.out.now.items c.print_steps.new.out.items c.print_mark.new.out.items c.loop-inner.out.items c.print_mark-in-Choice.new.out.items
    c.in-Choice.is c.deref-inner-items.ensures.value c.loop-inner-test.false
    (rw (← c.as_slice.ensures) c.in_ok-print_steps.ensures.words) c.in_ok-print_mark-in-Choice.ensures c.loop-inner.invariant.words c.in_ok-print_mark-in-Choice-2.ensures
