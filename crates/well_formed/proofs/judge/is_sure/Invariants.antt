use Rattle.std.proofs.Common.{◌≡◌, drop}
use Rattle.well_formed.specs.Flaws.{is_sure}
use Rattle.well_formed.proofs.judge.is_sure.Given as goal

abbrev pub invariant-loop-step : goal.invariant-loop-step
invariant-loop-step l = is_sure l.kinds (drop l.step-index l.steps) ≡ is_sure l.kinds l.steps
