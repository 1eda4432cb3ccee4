use Rattle.std.proofs.Common.{◌≡◌}
use Rattle.rule_tests.proofs.dragging.whoever_has_built_on_it_goes_back.Given as goal

abbrev pub invariant-loop-root : goal.invariant-loop-root
invariant-loop-root g l = l.members.most ≡ 3
