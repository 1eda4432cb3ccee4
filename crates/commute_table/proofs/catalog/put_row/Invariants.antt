use Rattle.std.proofs.Common.{◌≡◌, ◌++◌, ◌-◌, take, get_or, []}
use Rattle.commute_table.specs.Bytes.{row_bytes}
use Rattle.commute_table.proofs.catalog.put_row.Given as goal

abbrev pub invariant-loop-later : goal.invariant-loop-later
invariant-loop-later l = l.out.items ≡ l.fn.out.items ++ row_bytes (take (l.later - l.first) (get_or l.conflicts l.first []))
