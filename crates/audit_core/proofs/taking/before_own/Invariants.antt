use Rattle.std.proofs.Common.{◌≡◌, ◌+◌, false, length, take, drop}
use Rattle.std.specs.List.{list_any}
use Rattle.audit_core.specs.Taking.{is_own}
use Rattle.audit_core.proofs.taking.before_own.Given as goal

abbrev pub invariant-loop-rest : goal.invariant-loop-rest
invariant-loop-rest l = record {
  rest : l.rest ≡ drop l.size l.entries;
  size : l.size + length l.rest ≡ length l.entries;
  others : list_any (is_own l.process) (take l.size l.entries) ≡ false;
}

abbrev pub decreases-loop-rest : goal.decreases-loop-rest
decreases-loop-rest l = length l.rest
