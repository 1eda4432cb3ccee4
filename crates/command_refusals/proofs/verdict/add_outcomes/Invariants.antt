use Rattle.std.proofs.Common.{◌≡◌, ◌++◌, length}
use Rattle.command_refusals.specs.Verdicts.{outcomes_text}
use Rattle.command_refusals.proofs.verdict.add_outcomes.Given as goal

abbrev pub invariant-loop-rest : goal.invariant-loop-rest
invariant-loop-rest l = l.text.items ++ outcomes_text l.rest ≡ l.fn.text.items ++ outcomes_text l.outcomes

abbrev pub decreases-loop-rest : goal.decreases-loop-rest
decreases-loop-rest l = length l.rest
