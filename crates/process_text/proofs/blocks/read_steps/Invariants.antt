use Rattle.std.proofs.Common.{◌≡◌, ℕ, List, length}
use Rattle.process_text.specs.Grammar.{Writes, step_pieces}
use Rattle.process_text.specs.FirstFault.{told_from, begun_in, in_block}
use Rattle.process_text.specs.Leading.{with_names}
use Rattle.process_text.specs.Limits.{StepsFit}
use Rattle.process_text.proofs.Fitting.{MaySay}
use Rattle.text_words.specs.declared.marks.At.TheVariants.{Begin}
use Rattle.process_text.proofs.blocks.read_steps.Given as goal

abbrev pub invariant-loop-word : goal.invariant-loop-word
invariant-loop-word l = record {
  fits : StepsFit l.fn.names l.steps.items l.names;
  some : MaySay l.at l.steps.items;
  written : Writes (step_pieces l.steps.items) l.fn.words l.words;
  leads : (earlier : List (List ℕ)) (choices : List ℕ) → begun_in choices ≡ l.begun
      → told_from (with_names l.fn.names earlier choices) (in_block Begin) l.fn.words ≡ told_from (with_names l.names earlier choices) (in_block l.at) l.words;
}

abbrev pub decreases-loop-word : goal.decreases-loop-word
decreases-loop-word l = length l.words
