use Rattle.std.proofs.Common.{◌≡◌}
use Rattle.core_tests.proofs.starts.started.Given as goal

abbrev pub invariant-loop-text : goal.invariant-loop-text
invariant-loop-text g l = l.core.conflicts ≡ l.catalog.conflicts
