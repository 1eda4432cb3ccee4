use Rattle.std.proofs.Common.{◌≡◌, ◌++◌, drop, map}
use Rattle.process_expand.specs.Reading.{first_fault, told_from, tokens_from, tokens_of}
use Rattle.process_expand.specs.Reader.{before_of, place_of}
use Rattle.process_expand.proofs.whole.tokens_of.Given as goal

abbrev pub invariant-loop-number : goal.invariant-loop-number
invariant-loop-number l = record {
  told : told_from (before_of l.reader) (place_of l.reader.place) (drop l.number (map (λ w. w.now) l.words)) ≡ first_fault (map (λ w. w.now) l.words);
  tokens : l.tokens.items ++ tokens_from (before_of l.reader) (place_of l.reader.place) l.number (drop l.number (map (λ w. w.now) l.words))
      ≡ tokens_of (map (λ w. w.now) l.words);
}
