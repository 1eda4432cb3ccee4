use Rattle.std.proofs.Common.{◌≡◌, ◌+◌, ◌-◌, [], ◌++◌, ◌∷◌, List, length, arith}
use Rattle.std.proofs.lemmas.List.{length-append}
use Rattle.std.proofs.lemmas.Result.{err_from_is_err_and}
use Rattle.process_tree.specs.declared.conflicts.Mode.{Mode}
use Rattle.commute_table.specs.Reading.{mode_with, cells_at}
use Rattle.commute_table.proofs.RowLoops.{cells_go_on, cells_end, cells_done, cell_read, row_read}
use Rattle.commute_table.proofs.reading.row_of.Goals as goal

pub returns-in_err-cell : goal.returns-in_err-cell
returns-in_err-cell c =
    let p = err_from_is_err_and c.from_residual.result c.from_residual.ensures.1 in
    rw (p.1, p.2) (record { row = cells_end c.in_err-cell.field-0.0 c.args.version (c.args.count - c.loop-later.later) (c.args.count - (c.loop-later.later + 1)) c.loop-later.invariant.0 c.loop-later.rest.now (cells_at c.args.version (c.args.count - c.args.first) [] c.args.bytes.now) (omega arith) c.in_err-cell.ensures c.loop-later.invariant.3 })

pub loop-later-preserved : goal.loop-later-preserved
loop-later-preserved c =
    let l = c.loop-later in
    let mode : Mode = mode_with c.in_ok-cell.cell in
    let done : List Mode = l.invariant.0 ++ mode ∷ [] in
    let long : length done ≡ l.later + 1 - c.args.first = omega (arith, length-append l.invariant.0 (mode ∷ []), l.invariant.1) in
    let read = cells_go_on c.args.version (c.args.count - l.later) (c.args.count - (l.later + 1)) l.invariant.0 c.in_ok-cell.cell l.rest.now c.in_ok-cell.after.now (cells_at c.args.version (c.args.count - c.args.first) [] c.args.bytes.now) (omega arith) c.in_ok-cell.ensures l.invariant.3 in
    (done, long, cell_read c.args.conflicts.now l.conflicts c.set.new.self c.args.first l.later c.args.count mode l.invariant.0 (omega arith) (omega arith) (omega arith) l.invariant.1 l.invariant.2 (rw c.mode_with.ensures at c.set.ensures.set), read)

pub returns : goal.returns
returns c =
    let l = c.loop-later in
    record { row = (l.invariant.0, cells_done c.args.version (c.args.count - l.later) l.invariant.0 l.rest.now (cells_at c.args.version (c.args.count - c.args.first) [] c.args.bytes.now) (omega arith) l.invariant.3, row_read c.args.conflicts.now l.conflicts c.args.first l.later c.args.count l.invariant.0 (omega arith) l.invariant.2) }
