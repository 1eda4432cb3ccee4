use Rattle.std.proofs.Common.{◌≡◌, ◌+◌, length}
use Rattle.refusal_hints.specs.Lines.{line_from, nth_line}
use Rattle.refusal_hints.proofs.lines.nth_line.Given as goal

abbrev pub invariant-loop-rest : goal.invariant-loop-rest
invariant-loop-rest l = record {
  same : line_from l.begins l.n l.left l.word l.rest ≡ nth_line l.k l.word l.text;
  within : l.n + length l.rest ≡ length l.text;
}

abbrev pub decreases-loop-rest : goal.decreases-loop-rest
decreases-loop-rest l = length l.rest
