use Rattle.std.proofs.Common.{◌≡◌, length}
use Rattle.schedule_model.specs.Histories.{is_in, ends}
use Rattle.schedule_rules.proofs.events.has_ended.Given as goal

abbrev pub invariant-loop-rest : goal.invariant-loop-rest
invariant-loop-rest l = is_in l.i (ends l.rest) ≡ is_in l.i (ends l.events)

abbrev pub decreases-loop-rest : goal.decreases-loop-rest
decreases-loop-rest l = length l.rest
