use Rattle.std.proofs.Common.{◌≡◌, ◌-◌, Some, Ok, take, drop, length, sym}
use Rattle.std.proofs.lemmas.Result.{err_from_is_err_and}
use Rattle.toml.specs.Data.{as_table}
use Rattle.toml.specs.View.{view, table_view}
use Rattle.commute_table.specs.Document.{table_said, Fails}
use Rattle.commute_table.proofs.Walks.{ops_next, ops_fail, ops_stop, ops_refused, as_cons}
use Rattle.commute_table.proofs.scenario.ops_of.Goals as goal

pub returns-in_err-op : goal.returns-in_err-op
returns-in_err-op c =
    let p = err_from_is_err_and c.from_residual.result c.from_residual.ensures.1 in
    let rest = c.loop-rest.rest.now in
    let is = as_cons rest c.first-item.result c.in-len1-up.len_at_least c.first-item.is in
    let table : as_table (view c.first-item.result) ≡ Some (table_view c.in-Some.table.now) = sym c.in-Some.ensures in
    let failed : Fails c.in_err-op.field-0.0 (table_said c.loop-rest.ops.items (as_table (view c.first-item.result))) = rw (table, ← c.deref.ensures.value) c.in_err-op.ensures in
    rw (p.1, p.2) (ops_fail c.in_err-op.field-0.0 c.loop-rest.ops.items rest (take (length rest - 1) (drop 1 rest)) c.first-item.result _ is failed c.loop-rest.invariant)

pub returns-in_default-as_table : goal.returns-in_default-as_table
returns-in_default-as_table c =
    let rest = c.loop-rest.rest.now in
    let is = as_cons rest c.first-item.result c.in-len1-up.len_at_least c.first-item.is in
    rw (ops_refused c.loop-rest.ops.items rest (take (length rest - 1) (drop 1 rest)) c.first-item.result _ is (sym c.in_default-as_table.ensures) c.loop-rest.invariant) c.refuse.ensures

pub loop-rest-preserved : goal.loop-rest-preserved
loop-rest-preserved c =
    let rest = c.loop-rest.rest.now in
    let is = as_cons rest c.first-item.result c.in-len1-up.len_at_least c.first-item.is in
    let table : as_table (view c.first-item.result) ≡ Some (table_view c.in-Some.table.now) = sym c.in-Some.ensures in
    let found : table_said c.loop-rest.ops.items (as_table (view c.first-item.result)) ≡ Ok c.in_ok-op.op = rw (table, ← c.deref.ensures.value) c.in_ok-op.ensures in
    rw c.in_ok-push.ensures.items (ops_next c.loop-rest.ops.items c.in_ok-op.op rest (take (length rest - 1) (drop 1 rest)) c.first-item.result _ is found c.loop-rest.invariant)

pub returns : goal.returns
returns c = rw c.new.ensures (ops_stop c.loop-rest.ops.items c.loop-rest.rest.now _ c.in_default.len_below c.loop-rest.invariant)
