use Rattle.std.proofs.Common.{◌≡◌, ◌++◌, length, map}
use Rattle.text_words.specs.Words.{words_of}
use Rattle.process_expand.proofs.words.words.Given as goal

abbrev pub invariant-loop-word : goal.invariant-loop-word
invariant-loop-word l = map (λ w. w.now) l.words.items ++ l.rest ≡ words_of l.bytes

abbrev pub decreases-loop-word : goal.decreases-loop-word
decreases-loop-word l = length l.rest
