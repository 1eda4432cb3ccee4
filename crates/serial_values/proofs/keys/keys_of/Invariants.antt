use Rattle.std.proofs.Common.{◌≡◌, ◌++◌, length}
use Rattle.serial_values.specs.Told.{entry_keys}
use Rattle.serial_values.proofs.keys.keys_of.Given as goal

abbrev pub invariant-loop-rest : goal.invariant-loop-rest
invariant-loop-rest l = l.keys.items ++ entry_keys l.plans l.rest ≡ entry_keys l.plans l.entries

abbrev pub decreases-loop-rest : goal.decreases-loop-rest
decreases-loop-rest l = length l.rest
