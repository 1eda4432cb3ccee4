use Rattle.std.proofs.Common.{◌≡◌, false, true, refl}
use Rattle.std.specs.Prelude.{nat_lt}
use Rattle.std.proofs.lemmas.Bool.{le-ltb, lt-ltb}
use Rattle.toml.specs.View.{items_view}
use Rattle.commute_table.specs.Document.{few_said, items_length}
use Rattle.commute_table.proofs.Walks.{items_length-view}
use Rattle.commute_table.proofs.scenario.few_of.Goals as goal

pub returns-then-count-le-MOST_OPERATIONS : goal.returns-then-count-le-MOST_OPERATIONS
unfolding few_said
returns-then-count-le-MOST_OPERATIONS c =
    let few : nat_lt 256 (items_length (items_view c.args.items.now)) ≡ false = rw (items_length-view c.args.items.now) (le-ltb _ _ c.if-count-le-MOST_OPERATIONS.true) in
    rw few c.ops_of.ensures

pub returns-in-Ok : goal.returns-in-Ok
unfolding few_said
returns-in-Ok c =
    let many : nat_lt 256 (items_length (items_view c.args.items.now)) ≡ true = rw (items_length-view c.args.items.now) (lt-ltb _ _ c.if-count-le-MOST_OPERATIONS.false) in
    rw (many, items_length-view c.args.items.now, c.in-Ok.ensures.1) refl
