use Rattle.std.proofs.Common.{◌≡◌, ◌++◌, take}
use Rattle.std.specs.List.{flat_map}
use Rattle.commute_table.specs.Bytes.{row_bytes}
use Rattle.commute_table.proofs.catalog.put_pairs.Given as goal

abbrev pub invariant-loop-first : goal.invariant-loop-first
invariant-loop-first l = l.out.items ≡ l.fn.out.items ++ flat_map row_bytes (take l.first l.conflicts)
