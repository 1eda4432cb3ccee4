use Rattle.std.proofs.Common.{◌≡◌, true, arith}
use Rattle.process_tree.specs.Conflicts.{is_table}
use Rattle.process_tree.proofs.Tables.{read_row, changed, is_table-with_mode, with_mode-pairs}
use Rattle.process_tree.proofs.conflicts.Conflicts.set.Goals as goal

pub index_mut-requires : goal.index_mut-requires
index_mut-requires c =
    let row = read_row c.self.inside.rows.items c.args.self.now c.args.a c.args.b _ _ c.row.inside.cells.items c.self.invariant c.self.view_is c.requires.a_is_one c.requires.b_is_one c.place_of-at.ensures.row c.place_of-at.ensures.cell (rw c.row.view_is c.index_mut-row.ensures.value) in
    omega (arith, row.1, c.row.inside.cells.ok.0)

pub invariant_of-self : goal.invariant_of-self
invariant_of-self c =
    let row = read_row c.self.inside.rows.items c.args.self.now c.args.a c.args.b _ _ c.row.inside.cells.items c.self.invariant c.self.view_is c.requires.a_is_one c.requires.b_is_one c.place_of-at.ensures.row c.place_of-at.ensures.cell (rw c.row.view_is c.index_mut-row.ensures.value) in
    let table : is_table c.args.self.now ≡ true = rw c.self.view_is at c.self.invariant in
    rw (changed c.self.inside.rows.items c.args.self.now c.args.a c.args.b _ _ c.args.mode c.row.inside.cells.items c.self.view_is c.place_of-at.ensures.row c.place_of-at.ensures.cell row.0) (is_table-with_mode c.args.self.now c.args.a c.args.b c.args.mode table)

pub returns-clause-set : goal.returns-clause-set
returns-clause-set c =
    let row = read_row c.self.inside.rows.items c.args.self.now c.args.a c.args.b _ _ c.row.inside.cells.items c.self.invariant c.self.view_is c.requires.a_is_one c.requires.b_is_one c.place_of-at.ensures.row c.place_of-at.ensures.cell (rw c.row.view_is c.index_mut-row.ensures.value) in
    changed c.self.inside.rows.items c.args.self.now c.args.a c.args.b _ _ c.args.mode c.row.inside.cells.items c.self.view_is c.place_of-at.ensures.row c.place_of-at.ensures.cell row.0

pub returns-clause-pairs : goal.returns-clause-pairs
returns-clause-pairs c = λ k d.
    let row = read_row c.self.inside.rows.items c.args.self.now c.args.a c.args.b _ _ c.row.inside.cells.items c.self.invariant c.self.view_is c.requires.a_is_one c.requires.b_is_one c.place_of-at.ensures.row c.place_of-at.ensures.cell (rw c.row.view_is c.index_mut-row.ensures.value) in
    let table : is_table c.args.self.now ≡ true = rw c.self.view_is at c.self.invariant in
    rw (changed c.self.inside.rows.items c.args.self.now c.args.a c.args.b _ _ c.args.mode c.row.inside.cells.items c.self.view_is c.place_of-at.ensures.row c.place_of-at.ensures.cell row.0) (with_mode-pairs c.args.self.now c.args.a c.args.b c.args.mode k d table c.requires.a_is_one c.requires.b_is_one)
