use Rattle.std.proofs.Common.{◌≡◌, ◌++◌, take}
use Rattle.process_text.specs.Grammar.{step_pieces, AreNamed}
use Rattle.process_text.specs.Canonical.{canonical_words, spaced}
use Rattle.process_text.proofs.printing.print_steps.Given as goal

abbrev pub invariant-loop-step : goal.invariant-loop-step
invariant-loop-step l = record {
  named : AreNamed (step_pieces (take l.step-index l.steps));
  words : l.out.items ≡ l.fn.out.items ++ spaced (canonical_words (step_pieces (take l.step-index l.steps)));
}
