use Rattle.std.proofs.Common.{◌≡◌, ◌≤◌, ◌+◌, length}
use Rattle.text_words.specs.Places.{start}
use Rattle.refusal_hints.specs.Places.{behind_all}
use Rattle.refusal_hints.proofs.places.behind_all.Given as goal

abbrev pub invariant-loop-rest : goal.invariant-loop-rest
invariant-loop-rest l = record {
  same : behind_all l.at l.rest ≡ behind_all start l.text;
  line : l.at.line + length l.rest ≤ length l.text + 1;
  column : l.at.column + length l.rest ≤ length l.text + 1;
}

abbrev pub decreases-loop-rest : goal.decreases-loop-rest
decreases-loop-rest l = length l.rest
