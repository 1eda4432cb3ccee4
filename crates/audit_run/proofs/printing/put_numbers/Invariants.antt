use Rattle.std.proofs.Common.{◌≡◌, ◌++◌, length, map}
use Rattle.std.specs.Prelude.{decimal}
use Rattle.process_text.specs.Canonical.{spaced}
use Rattle.audit_run.proofs.printing.put_numbers.Given as goal

abbrev pub invariant-loop-rest : goal.invariant-loop-rest
invariant-loop-rest l = l.out.items ++ spaced (map decimal l.rest) ≡ l.fn.out.items ++ spaced (map decimal l.numbers)

abbrev pub decreases-loop-rest : goal.decreases-loop-rest
decreases-loop-rest l = length l.rest
