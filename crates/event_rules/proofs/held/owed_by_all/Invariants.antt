use Rattle.std.proofs.Common.{◌≡◌, ◌++◌, length}
use Rattle.schedule_model.specs.Course.{courses_of}
use Rattle.schedule_rules.specs.Recovering.{StandsOnBranches}
use Rattle.event_rules.specs.Held.{all_owed_among}
use Rattle.event_rules.proofs.held.owed_by_all.Given as goal

abbrev pub invariant-loop-rest : goal.invariant-loop-rest
invariant-loop-rest l = record {
  found : l.found.items ++ all_owed_among (courses_of l.plans) l.entries l.rest ≡ all_owed_among (courses_of l.plans) l.entries l.processes;
  branches : StandsOnBranches l.plans l.entries l.rest;
}

abbrev pub decreases-loop-rest : goal.decreases-loop-rest
decreases-loop-rest l = length l.rest
