use Rattle.std.proofs.Common.{◌≡◌, ◌++◌, length}
use Rattle.audit_text.specs.Logs.{plans_in}
use Rattle.audit_run.proofs.history.referred.Given as goal

abbrev pub invariant-loop-rest : goal.invariant-loop-rest
invariant-loop-rest l = plans_in l.started.items ++ l.rest ≡ l.plans

abbrev pub decreases-loop-rest : goal.decreases-loop-rest
decreases-loop-rest l = length l.rest
