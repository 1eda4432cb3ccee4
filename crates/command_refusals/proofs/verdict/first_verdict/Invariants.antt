use Rattle.std.proofs.Common.{ℕ, List, Option, length}
use Rattle.command_refusals.specs.Verdicts.{IsFirstVerdict}
use Rattle.command_refusals.proofs.verdict.first_verdict.Given as goal

abbrev pub invariant-loop-rest : goal.invariant-loop-rest
invariant-loop-rest l = (found : Option (List ℕ)) → IsFirstVerdict l.rest found → IsFirstVerdict l.processes found

abbrev pub decreases-loop-rest : goal.decreases-loop-rest
decreases-loop-rest l = length l.rest
