use Rattle.std.proofs.Common.{◌≡◌, ◌++◌, length}
use Rattle.schedule_model.specs.Course.{course_of}
use Rattle.schedule_rules.specs.Recovering.{owed_by}
use Rattle.event_rules.proofs.held.add_steps.Given as goal

abbrev pub invariant-loop-rest : goal.invariant-loop-rest
invariant-loop-rest l = l.added.items ++ owed_by (course_of l.plan) l.i l.rest ≡ l.fn.added.items ++ owed_by (course_of l.plan) l.i l.steps

abbrev pub decreases-loop-rest : goal.decreases-loop-rest
decreases-loop-rest l = length l.rest
