use Rattle.std.proofs.Common.{◌≡◌, length, None}
use Rattle.process_tree.specs.Paths.{last_or}
use Rattle.process_tree.proofs.turns.last_of.Given as goal

abbrev pub invariant-loop-rest : goal.invariant-loop-rest
invariant-loop-rest l = last_or l.last l.rest ≡ last_or None l.steps

abbrev pub decreases-loop-rest : goal.decreases-loop-rest
decreases-loop-rest l = length l.rest
