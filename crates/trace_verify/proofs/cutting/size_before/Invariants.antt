use Rattle.std.proofs.Common.{◌≡◌, ◌+◌, length}
use Rattle.trace_verify.specs.Lines.{size_before}
use Rattle.trace_verify.proofs.cutting.size_before.Given as goal

abbrev pub invariant-loop-rest : goal.invariant-loop-rest
invariant-loop-rest l = record {
  size : l.size + size_before l.byte l.rest ≡ size_before l.byte l.text;
  within : l.size + length l.rest ≡ length l.text;
}

abbrev pub decreases-loop-rest : goal.decreases-loop-rest
decreases-loop-rest l = length l.rest
