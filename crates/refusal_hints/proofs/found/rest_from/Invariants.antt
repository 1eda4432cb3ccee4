use Rattle.std.proofs.Common.{◌≡◌, ◌≤◌, ◌+◌, length}
use Rattle.text_words.specs.Places.{start}
use Rattle.refusal_hints.specs.Found.{rest_from}
use Rattle.refusal_hints.proofs.found.rest_from.Given as goal

abbrev pub invariant-loop-rest : goal.invariant-loop-rest
invariant-loop-rest l = record {
  same : rest_from l.fn.line l.fn.column l.at l.rest ≡ rest_from l.fn.line l.fn.column start l.text;
  line : l.at.line + length l.rest ≤ length l.text + 1;
  column : l.at.column + length l.rest ≤ length l.text + 1;
}

abbrev pub decreases-loop-rest : goal.decreases-loop-rest
decreases-loop-rest l = length l.rest
