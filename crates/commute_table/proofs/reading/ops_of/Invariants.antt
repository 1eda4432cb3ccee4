use Rattle.std.proofs.Common.{◌≡◌, ◌-◌, []}
use Rattle.commute_table.specs.Reading.{ops_at}
use Rattle.commute_table.proofs.reading.ops_of.Given as goal

-- the operations so far stand, and those that are left are still to be read
abbrev pub invariant-loop : goal.invariant-loop
invariant-loop l = ops_at (l.count - l.counter) l.ops.items l.rest ≡ ops_at l.count [] l.bytes
