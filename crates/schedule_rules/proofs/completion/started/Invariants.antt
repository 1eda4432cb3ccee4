use Rattle.std.proofs.Common.{◌≡◌, ◌++◌, length}
use Rattle.schedule_model.specs.Histories.{starts}
use Rattle.schedule_rules.proofs.completion.started.Given as goal

abbrev pub invariant-loop-rest : goal.invariant-loop-rest
invariant-loop-rest l = l.found.items ++ starts l.rest ≡ starts l.events

abbrev pub decreases-loop-rest : goal.decreases-loop-rest
decreases-loop-rest l = length l.rest
