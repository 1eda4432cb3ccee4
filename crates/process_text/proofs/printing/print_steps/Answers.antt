use Rattle.std.proofs.Common.{◌∷◌, ◌++◌, ◌∙◌, [], take, ap, sym, append-nil}
use Rattle.process_text.specs.Grammar.{step, step_pieces}
use Rattle.process_text.specs.Canonical.{step_words, spaced}
use Rattle.process_text.proofs.Printed.{steps_printed, named_both, pieces_more}
use Rattle.process_text.proofs.printing.print_steps.Goals as goal

pub loop-step-preserved : goal.loop-step-preserved
loop-step-preserved c =
    let i = c.loop-step.step-index in
    let before = step_pieces (take i c.args.steps.now) in
    let more = steps_printed c.args.steps.now i c.step-item.result c.loop-step-test.true c.step-item.is in
    record {
      named = rw more (named_both before (step c.step-item.result ∷ []) c.loop-step.invariant.named (c.in_ok-print_step.ensures.named, tt));
      words = rw more (pieces_more before (step c.step-item.result ∷ []) c.args.out.now.items c.loop-step.out.items c.print_step.new.out.items c.loop-step.invariant.words
          (c.in_ok-print_step.ensures.words ∙ ap (λ ws. c.loop-step.out.items ++ spaced ws) (sym (append-nil (step_words c.step-item.result)))));
    }
