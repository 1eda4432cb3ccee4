use Rattle.std.proofs.Common.{◌≡◌, ◌+◌, ◌*◌, ◌≤◌, length}
use Rattle.audit_text.specs.Logs.{plans_in}
use Rattle.audit_run.specs.Outcomes.{steps_in}
use Rattle.audit_run.proofs.judging.steps_in.Given as goal

-- the steps so far and those to come are all; and each plan has fewer than 65,536
abbrev pub invariant-loop-rest : goal.invariant-loop-rest
invariant-loop-rest l = record {
  same : l.steps + steps_in (plans_in l.rest) ≡ steps_in (plans_in l.started);
  few : l.steps + 65536 * length l.rest ≤ 65536 * length l.started;
}

abbrev pub decreases-loop-rest : goal.decreases-loop-rest
decreases-loop-rest l = length l.rest
