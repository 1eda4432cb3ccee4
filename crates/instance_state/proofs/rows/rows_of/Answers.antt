use Rattle.std.proofs.Common.{◌∙◌, ◌++◌, ◌∷◌, [], ap, sym}
use Rattle.instance_state.specs.Rows.{row_of}
use Rattle.instance_state.proofs.RowFacts.{rows_more}
use Rattle.instance_state.proofs.rows.rows_of.Goals as goal

pub loop-n-preserved : goal.loop-n-preserved
loop-n-preserved c =
    let root = c.args.tree.now in
    let n = c.loop-n.n in
    c.in_ok-push.ensures.items ∙ ap (λ r. c.loop-n.rows.items ++ r ∷ []) c.next_row-next.ensures
    ∙ ap (λ l. l ++ row_of root n ∷ []) c.loop-n.invariant ∙ sym (rows_more root n)
