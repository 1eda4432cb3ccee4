use Rattle.std.proofs.Common.{◌≡◌, ◌++◌, length}
use Rattle.schedule_model.specs.Course.{courses_of}
use Rattle.schedule_rules.specs.Recovering.{StandsOnBranches, closed_by}
use Rattle.schedule_rules.proofs.completion.add_closings.Given as goal

abbrev pub invariant-loop-rest : goal.invariant-loop-rest
invariant-loop-rest l = record {
  added : l.added.items ++ closed_by (courses_of l.plans) l.entries l.rest ≡ l.fn.added.items ++ closed_by (courses_of l.plans) l.entries l.processes;
  branches : StandsOnBranches l.plans l.entries l.rest;
}

abbrev pub decreases-loop-rest : goal.decreases-loop-rest
decreases-loop-rest l = length l.rest
