use Rattle.std.proofs.Common.{◌≡◌, length}
use Rattle.schedule_model.specs.Histories.{net}
use Rattle.schedule_rules.proofs.Standing.{stands_after_all}
use Rattle.schedule_rules.proofs.events.net.Given as goal

abbrev pub invariant-loop-rest : goal.invariant-loop-rest
invariant-loop-rest l = stands_after_all l.entries.items l.rest ≡ net l.h.events

abbrev pub decreases-loop-rest : goal.decreases-loop-rest
decreases-loop-rest l = length l.rest
