use Rattle.std.proofs.Common.{arith}
use Rattle.commute_table.proofs.CatalogLaws.{catalog_takes, read_is, unread_is}
use Rattle.commute_table.proofs.FirstBad.{is_first_bad, place_is_small}
use Rattle.commute_table.proofs.reading.read_catalog.Goals as goal

pub overflow_sub-result : goal.overflow_sub-result
overflow_sub-result c = (place_is_small c.args.bytes.now c.in-Err-Left.left (omega (arith, c.type_inv.bytes 1)) (rw c.in-Err-Left.field-0-is at c.in-Err-Left.ensures)).0

pub overflow_cast-result : goal.overflow_cast-result
overflow_cast-result c =
    let small = place_is_small c.args.bytes.now c.in-Err-Left.left (omega (arith, c.type_inv.bytes 1)) (rw c.in-Err-Left.field-0-is at c.in-Err-Left.ensures) in
    omega (arith, small.1)

pub returns-in-Ok-clause-found : goal.returns-in-Ok-clause-found
returns-in-Ok-clause-found c = catalog_takes c.args.bytes.now c.in-Ok.catalog (omega (arith, c.type_inv.bytes 1)) c.in-Ok.ensures

pub returns-in-Ok-clause-only : goal.returns-in-Ok-clause-only
returns-in-Ok-clause-only c = λ d valid e. read_is c.args.bytes.now c.in-Ok.catalog d valid e c.in-Ok.ensures

pub returns-in-Err-Left-clause-only : goal.returns-in-Err-Left-clause-only
returns-in-Err-Left-clause-only c = λ d valid e. unread_is c.args.bytes.now c.in-Err-Left.left d valid e (rw c.in-Err-Left.field-0-is at c.in-Err-Left.ensures)

pub returns-in-Err-Left-clause-bad : goal.returns-in-Err-Left-clause-bad
returns-in-Err-Left-clause-bad c = is_first_bad c.args.bytes.now c.in-Err-Left.left (omega (arith, c.type_inv.bytes 1)) (rw c.in-Err-Left.field-0-is at c.in-Err-Left.ensures)
