use Rattle.toml.specs.View.{table_view}
use Rattle.commute_table.proofs.Valid.{operations_are_ops}
use Rattle.commute_table.proofs.scenario.catalog_of.Goals as goal

pub conflicts_of-requires : goal.conflicts_of-requires
conflicts_of-requires c =
    let are = operations_are_ops (table_view c.args.table.now) c.in_ok-ops.ops c.in_ok-ops.ensures in
    record { few = rw c.as_slice.ensures are.few }
