use Rattle.std.proofs.Common.{List, length, ◌++◌}
use Rattle.process_tree.specs.declared.plan.Plan.{Plan}
use Rattle.audit_text.specs.Copies.{AreCopies}
use Rattle.audit_text.specs.Logs.{plans_in}
use Rattle.audit_text.proofs.histories.plans_of.Given as goal

-- copies of those that are left make copies of all
abbrev pub invariant-loop-rest : goal.invariant-loop-rest
invariant-loop-rest l = (more : List Plan) → AreCopies more (plans_in l.rest) → AreCopies (l.plans.items ++ more) l.log.started

abbrev pub decreases-loop-rest : goal.decreases-loop-rest
decreases-loop-rest l = length l.rest
