use Rattle.std.proofs.Common.{◌≡◌, ◌+◌, length}
use Rattle.toml.specs.View.{items_view}
use Rattle.refusal_hints.specs.Tables.{table_from}
use Rattle.refusal_hints.proofs.tables.nth_table.Given as goal

abbrev pub invariant-loop-rest : goal.invariant-loop-rest
invariant-loop-rest l = record {
  same : table_from l.named l.word l.left l.n (items_view l.rest) ≡ table_from l.named l.word l.k 1 (items_view l.tables);
  within : l.n + length l.rest ≡ length l.tables + 1;
}

abbrev pub decreases-loop-rest : goal.decreases-loop-rest
decreases-loop-rest l = length l.rest
