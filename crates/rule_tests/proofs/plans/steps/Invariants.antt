use Rattle.std.proofs.Common.{◌≡◌, length}
use Rattle.rule_tests.proofs.plans.steps.Given as goal

abbrev pub invariant-loop-place : goal.invariant-loop-place
invariant-loop-place g l = length l.steps.items ≡ l.place
