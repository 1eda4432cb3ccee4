use Rattle.std.proofs.Common.{◌≡◌, ◌++◌, map, drop}
use Rattle.process_text.specs.Grammar.{block_pieces, AreNamed}
use Rattle.process_text.specs.Canonical.{canonical_words, spaced}
use Rattle.process_text.proofs.Printed.{to_come}
use Rattle.process_text.proofs.printing.+print_block.Given as goal

-- what is printed and what is to come are together the choice
abbrev pub invariant-loop-inner : goal.invariant-loop-inner
invariant-loop-inner l = record {
  named : AreNamed (to_come l.first (map block_pieces (drop l.inner-index l.inner-items))) → AreNamed (to_come l.initial.first (map block_pieces l.inner-items));
  words : l.out.items ++ spaced (canonical_words (to_come l.first (map block_pieces (drop l.inner-index l.inner-items))))
      ≡ l.initial.out.items ++ spaced (canonical_words (to_come l.initial.first (map block_pieces l.inner-items)));
}
