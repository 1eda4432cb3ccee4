use Rattle.std.proofs.Common.{◌≡◌, ◌+◌, length}
use Rattle.refusal_hints.specs.Parts.{part_of_rows}
use Rattle.refusal_hints.proofs.parts.part_of_rows.Given as goal

abbrev pub invariant-loop-rest : goal.invariant-loop-rest
invariant-loop-rest l = record {
  same : part_of_rows l.left l.i l.rest ≡ part_of_rows l.n 1 l.ops;
  within : l.i + length l.rest ≡ length l.ops + 1;
}

abbrev pub decreases-loop-rest : goal.decreases-loop-rest
decreases-loop-rest l = length l.rest
