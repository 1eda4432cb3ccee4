use Rattle.std.proofs.Common.{◌≡◌, ◌≤◌, ◌+◌, length, false}
use Rattle.text_words.specs.Places.{start, places, nth_place}
use Rattle.text_words.proofs.places.nth_place.Given as goal

abbrev pub invariant-loop-rest : goal.invariant-loop-rest
invariant-loop-rest l = record {
  same : nth_place l.left (places l.in_word l.at l.rest) ≡ nth_place l.n (places false start l.text);
  line : l.at.line + length l.rest ≤ length l.text + 1;
  column : l.at.column + length l.rest ≤ length l.text + 1;
}

abbrev pub decreases-loop-rest : goal.decreases-loop-rest
decreases-loop-rest l = length l.rest
