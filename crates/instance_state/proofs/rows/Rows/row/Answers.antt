use Rattle.std.proofs.Common.{◌∙◌, length, slice_index_or, ap, subst, arith}
use Rattle.process_tree.specs.Blocks.{outline}
use Rattle.process_tree.specs.Laws.{IsTreeShape}
use Rattle.process_tree.proofs.InTurn.{kinds_count}
use Rattle.instance_state.specs.Rows.{row_in, rows_to}
use Rattle.instance_state.proofs.RowFacts.{row_at, rows_count, shape_is}
use Rattle.instance_state.proofs.rows.Rows.row.Goals as goal

pub index-requires : goal.index-requires
index-requires c =
    let root = c.self.inside.plan.tree in
    let kinds = ap (λ k. length k.shape.kinds) c.self.view_is in
    let count = kinds_count root in
    let rows = ap length c.self.invariant.1 ∙ rows_count root (length (outline root).steps) in
    omega (arith, c.requires)

pub returns-clause-row : goal.returns-clause-row
returns-clause-row c =
    let root = c.self.inside.plan.tree in
    let n = length (outline root).steps in
    let r = c.index.result.now in
    let kinds = ap (λ k. length k.shape.kinds) c.self.view_is in
    let count = kinds_count root in
    c.index.ensures ∙ ap (λ l. slice_index_or l c.from.result r) c.self.invariant.1 ∙ ap (λ k. slice_index_or (rows_to root n) k r) c.from.ensures
    ∙ row_at root n c.args.step r (omega (arith, c.requires)) ∙ ap (λ k. row_in k c.args.step) c.self.view_is

pub returns-clause-tree : goal.returns-clause-tree
returns-clause-tree c = subst (λ k. IsTreeShape k.shape) c.self.view_is (shape_is c.self.inside.plan.tree c.self.invariant.0)
