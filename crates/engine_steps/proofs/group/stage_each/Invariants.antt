use Rattle.std.proofs.Common.{◌≡◌, length}
use Rattle.engine_steps.proofs.GroupSteps.{IsStagedSoFar}
use Rattle.engine_steps.proofs.group.stage_each.Given as goal

abbrev pub invariant-loop-rest : goal.invariant-loop-rest
invariant-loop-rest g l = record {
  staged : IsStagedSoFar l.fn.files.journal l.files.journal l.fn.events l.rest;
  same : (l.files.stores ≡ l.fn.files.stores) × (l.files.rack ≡ l.fn.files.rack);
}

abbrev pub decreases-loop-rest : goal.decreases-loop-rest
decreases-loop-rest g l = length l.rest
