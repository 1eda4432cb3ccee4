use Rattle.std.proofs.Common.{[], ◌++◌, ◌∷◌, List, arith, ◌∙◌}
use Rattle.std.proofs.lemmas.Result.{err_from_is_err_and}
use Rattle.std.proofs.lemmas.List.{length-append}
use Rattle.process_tree.specs.declared.conflicts.Mode.{Mode}
use Rattle.commute_table.specs.Reading.{rows_at}
use Rattle.commute_table.proofs.RowLoops.{rows_go_on, rows_end, rows_done, row_is_free, row_put, rows_count, row_is_fit, rows_read}
use Rattle.commute_table.proofs.reading.rows_of.Goals as goal

pub row_of-requires-clause-count : goal.row_of-requires-clause-count
row_of-requires-clause-count c = rows_count c.loop-first.invariant.0 c.loop-first.conflicts c.args.count c.loop-first.first c.loop-first.invariant.1 (omega arith) c.loop-first.invariant.2

pub row_of-requires-clause-free : goal.row_of-requires-clause-free
row_of-requires-clause-free c = rw c.loop-first.invariant.2 (row_is_free c.loop-first.invariant.0 c.args.count c.loop-first.first c.loop-first.invariant.1 c.loop-first-test.true)

pub returns-in_err-rest : goal.returns-in_err-rest
returns-in_err-rest c =
    let p = err_from_is_err_and c.from_residual-in_err-rest.result c.from_residual-in_err-rest.ensures.1 in
    rw (p.1, p.2) (rows_end c.in_err-rest.field-0.0 c.args.version c.args.count c.loop-first.first c.loop-first.invariant.0 c.loop-first.rest.now (rows_at c.args.version c.args.count [] c.args.bytes.now) c.loop-first-test.true c.in_err-rest.ensures.row c.loop-first.invariant.4)

pub loop-first-preserved : goal.loop-first-preserved
loop-first-preserved c =
    let l = c.loop-first in
    let done = l.invariant.0 in
    let row = c.in_ok-rest.ensures.row in
    let cells : List Mode = row.0 in (
      done ++ cells ∷ [],
      omega (arith, length-append done (cells ∷ []), l.invariant.1),
      row.2 ∙ rw l.invariant.2 (row_put done c.args.count l.first cells l.invariant.1 c.loop-first-test.true),
      rw row.2 (row_is_fit c.args.version done l.conflicts c.args.count l.first cells l.rest.now c.in_ok-rest.rest.now l.invariant.1 c.loop-first-test.true l.invariant.2 l.invariant.3 row.1),
      rows_go_on c.args.version c.args.count l.first done cells l.rest.now c.in_ok-rest.rest.now (rows_at c.args.version c.args.count [] c.args.bytes.now) c.loop-first-test.true row.1 l.invariant.4,
    )

pub returns : goal.returns
returns c =
    let l = c.loop-first in
    rw (rows_read l.invariant.0 l.conflicts c.args.count l.first c.loop-first-test.false l.invariant.2) (rows_done c.args.version c.args.count l.first l.invariant.0 l.rest.now (rows_at c.args.version c.args.count [] c.args.bytes.now) c.loop-first-test.false l.invariant.4)
