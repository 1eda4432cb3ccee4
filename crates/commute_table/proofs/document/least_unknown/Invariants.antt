use Rattle.std.proofs.Common.{◌≡◌}
use Rattle.std.specs.List.Sorted.{IsStrictlySortedBy}
use Rattle.std.specs.Map.{keys_of}
use Rattle.std.specs.String.{string_cmp}
use Rattle.toml.specs.View.{members_view}
use Rattle.commute_table.specs.Document.{least_unknown}
use Rattle.commute_table.proofs.document.least_unknown.Given as goal

-- the keys so far are known, and those that are left ascend
abbrev pub invariant-loop-key : goal.invariant-loop-key
invariant-loop-key l = record {
  same : least_unknown l.keys (members_view l.key-iterator) ≡ least_unknown l.keys (members_view l.table.entries);
  sorted : IsStrictlySortedBy string_cmp (keys_of l.key-iterator);
}
