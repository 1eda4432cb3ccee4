use Rattle.std.proofs.Common.{◌≡◌, ◌+◌, length}
use Rattle.hold_tables.specs.Places.{all_steps}
use Rattle.hold_tables.proofs.looking.all_steps.Given as goal

abbrev pub invariant-loop-rest : goal.invariant-loop-rest
invariant-loop-rest l = l.steps + all_steps l.rest ≡ all_steps l.rows

abbrev pub decreases-loop-rest : goal.decreases-loop-rest
decreases-loop-rest l = length l.rest
