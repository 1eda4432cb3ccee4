use Rattle.std.proofs.Common.{◌≡◌, ◌+◌, ◌≤◌, length}
use Rattle.trace_verify.specs.Verdicts.{differs_from}
use Rattle.trace_verify.proofs.comparing.differs_at.Given as goal

abbrev pub invariant-loop-rest : goal.invariant-loop-rest
invariant-loop-rest l = record {
  same : differs_from l.steps l.ops l.number l.rest l.acts ≡ differs_from l.steps l.ops 1 l.list l.printed;
  few : l.number + length l.rest ≤ 32769;
}

abbrev pub decreases-loop-rest : goal.decreases-loop-rest
decreases-loop-rest l = length l.rest
