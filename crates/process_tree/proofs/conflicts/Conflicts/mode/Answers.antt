use Rattle.std.proofs.Common.{arith}
use Rattle.process_tree.proofs.Tables.{read_row, read_cell}
use Rattle.process_tree.proofs.conflicts.Conflicts.mode.Goals as goal

pub index-requires : goal.index-requires
index-requires c =
    let row = read_row c.self.inside.rows.items c.args.self.now c.args.a c.args.b _ _ c.row.inside.cells.items c.self.invariant c.self.view_is c.requires.a_is_one c.requires.b_is_one c.place_of-at.ensures.row c.place_of-at.ensures.cell (rw c.row.view_is c.index-row.ensures) in
    omega (arith, row.1, c.row.inside.cells.ok.0)

pub returns-clause-mode : goal.returns-clause-mode
returns-clause-mode c =
    let row = read_row c.self.inside.rows.items c.args.self.now c.args.a c.args.b _ _ c.row.inside.cells.items c.self.invariant c.self.view_is c.requires.a_is_one c.requires.b_is_one c.place_of-at.ensures.row c.place_of-at.ensures.cell (rw c.row.view_is c.index-row.ensures) in
    read_cell c.args.self.now c.args.a c.args.b _ c.row.inside.cells.items _ row.0 row.1 c.place_of-at.ensures.cell c.index.ensures
