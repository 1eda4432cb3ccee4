use Rattle.std.proofs.Common.{◌≡◌, ◌+◌, ◌++◌, length}
use Rattle.schedule_model.specs.Histories.{acts}
use Rattle.history_files.specs.Effects.{effects_from}
use Rattle.history_opening.proofs.effects.effects_on.Given as goal

abbrev pub invariant-loop-rest : goal.invariant-loop-rest
invariant-loop-rest l = record {
  found : l.found.items ++ effects_from l.fn.ops l.fn.plans l.fn.q l.number (acts l.rest) ≡ effects_from l.fn.ops l.fn.plans l.fn.q 0 (acts l.fn.events);
  number : l.number + length (acts l.rest) ≡ length (acts l.fn.events);
}

abbrev pub decreases-loop-rest : goal.decreases-loop-rest
decreases-loop-rest l = length l.rest
