use Rattle.std.proofs.Common.{◌≡◌, ◌+◌, length}
use Rattle.schedule_model.specs.Histories.{acts}
use Rattle.history_files.specs.Effects.{effects_from}
use Rattle.history_files.specs.Sound.{is_among}
use Rattle.history_opening.proofs.effects.has_effect.Given as goal

abbrev pub invariant-loop-rest : goal.invariant-loop-rest
invariant-loop-rest l = record {
  same : is_among l.fn.effect (effects_from l.fn.ops l.fn.plans l.fn.q l.number (acts l.rest)) ≡ is_among l.fn.effect (effects_from l.fn.ops l.fn.plans l.fn.q 0 (acts l.fn.events));
  number : l.number + length (acts l.rest) ≡ length (acts l.fn.events);
}

abbrev pub decreases-loop-rest : goal.decreases-loop-rest
decreases-loop-rest l = length l.rest
