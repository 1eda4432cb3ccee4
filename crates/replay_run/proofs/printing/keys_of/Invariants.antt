use Rattle.std.proofs.Common.{◌≡◌, ◌++◌, length}
use Rattle.replay_run.specs.Boxes.{step_keys}
use Rattle.replay_run.proofs.printing.keys_of.Given as goal

abbrev pub invariant-loop-rest : goal.invariant-loop-rest
invariant-loop-rest l = l.keys.items ++ step_keys l.plans l.rest ≡ step_keys l.plans l.lines

abbrev pub decreases-loop-rest : goal.decreases-loop-rest
decreases-loop-rest l = length l.rest
