use Rattle.std.proofs.Common.{◌≡◌, ◌+◌, length}
use Rattle.text_words.specs.Words.{words_of}
use Rattle.text_words.proofs.words.count.Given as goal

abbrev pub invariant-loop-words : goal.invariant-loop-words
invariant-loop-words l = l.number + length l.words ≡ length (words_of l.text)

abbrev pub decreases-loop-words : goal.decreases-loop-words
decreases-loop-words l = length l.words
