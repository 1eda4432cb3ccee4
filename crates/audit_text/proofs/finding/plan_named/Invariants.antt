use Rattle.std.proofs.Common.{◌≡◌, length}
use Rattle.audit_text.specs.Logs.{plan_named}
use Rattle.audit_text.proofs.finding.plan_named.Given as goal

-- the first among those that are left is the first of all
abbrev pub invariant-loop-rest : goal.invariant-loop-rest
invariant-loop-rest l = plan_named l.rest l.name ≡ plan_named l.plans l.name

abbrev pub decreases-loop-rest : goal.decreases-loop-rest
decreases-loop-rest l = length l.rest
