-- The bytes of a catalog fit a record.
use Rattle.std.proofs.Common.{◌≡◌, ◌≤◌, ◌+◌, ◌*◌, ℕ, Bool, true, false, leb, List, [], ◌∷◌, ◌++◌, length, refl, arith, suc}
use Rattle.std.specs.List.{flat_map, list_all}
use Rattle.std.proofs.lemmas.Bool.{and_parts, eqb-true, leb-true, leb-false}
use Rattle.std.proofs.lemmas.List.{length-append, length-map}
use Rattle.process_tree.specs.Name.{is_letter, is_name_byte, is_name}
use Rattle.process_text.proofs.Lines.{three}
use Rattle.process_tree.specs.Conflicts.{Table, is_table}
use Rattle.commute_table.specs.declared.op.Op.{Op}
use Rattle.commute_table.specs.declared.catalog.Catalog.{Catalog}
use Rattle.commute_table.specs.Operations.{takes, is_good_op, IsCatalog}
use Rattle.commute_table.specs.Bytes.{op_bytes, verb_code, cell_byte, row_bytes, bytes_of}

-- a name is short
name_is_short : (name : List ℕ) → is_name name ≡ true → length name ≤ 32
name_is_short [] is = absurd cc
name_is_short (b ∷ bs) is =
    leb-true (length (b ∷ bs)) 32 (three (is_letter b) (list_all is_name_byte (b ∷ bs)) (leb (length (b ∷ bs)) 32) is).2

-- so are the bytes of an operation,
op_is_short : (o : Op) → is_good_op o ≡ true → length (op_bytes o) ≤ 35
op_is_short o good =
    let short = name_is_short o.name (and_parts (is_name o.name) (takes o.subsystem o.verb) good).0 in
    let long = length-append o.name (o.subsystem ∷ verb_code o.verb ∷ []) in
    omega arith

-- and of all of them
ops_are_short : (ops : List Op) → list_all is_good_op ops ≡ true → length (flat_map op_bytes ops) ≤ 35 * length ops
ops_are_short [] good = omega arith
ops_are_short (o ∷ ops) good =
    let parts = and_parts (is_good_op o) (list_all is_good_op ops) good in
    let one = op_is_short o parts.0 in
    let rest = ops_are_short ops parts.1 in
    let long = length-append (op_bytes o) (flat_map op_bytes ops) in
    omega arith

-- how long rows are in all: at most 128 each for as many rows, and at most 256 each for the others
record AreShort (rows : Table) : Type 0 where
  few : length rows ≤ 128 → length (flat_map row_bytes rows) ≤ 128 * length rows
  many : 128 ≤ length rows → length rows ≤ 256 → length (flat_map row_bytes rows) + 16384 ≤ 256 * length rows

rows_are_short : (rows : Table) → is_table rows ≡ true → AreShort rows
rows_are_short [] is = record { few = λ le. omega arith; many = λ ge le. absurd (omega arith) }
rows_are_short (row ∷ rows) is =
    let parts = and_parts _ (is_table rows) is in
    let own = eqb-true (length row) (suc (length rows)) parts.0 in
    let rest = rows_are_short rows parts.1 in
    let cells = length-map row cell_byte in
    let long = length-append (row_bytes row) (flat_map row_bytes rows) in
    record {
      few = λ le. let before = rest.few (omega arith) in omega arith;
      many = λ ge le. by_size (length rows) refl ge le own cells long rest;
    }
  where
    by_size : (n : ℕ) → length rows ≡ n → 128 ≤ length (row ∷ rows) → length (row ∷ rows) ≤ 256 → length row ≡ suc (length rows) → length (row_bytes row) ≡ length row
        → length (row_bytes row ++ flat_map row_bytes rows) ≡ length (row_bytes row) + length (flat_map row_bytes rows) → AreShort rows
        → length (row_bytes row ++ flat_map row_bytes rows) + 16384 ≤ 256 * length (row ∷ rows)
    by_size n is ge le own cells long rest = by_test (leb 128 (length rows)) refl
      where
        by_test : (t : Bool) → leb 128 (length rows) ≡ t → length (row_bytes row ++ flat_map row_bytes rows) + 16384 ≤ 256 * length (row ∷ rows)
        by_test true is = let before = rest.many (leb-true 128 (length rows) is) (omega arith) in omega arith
        by_test false is = let small = leb-false 128 (length rows) is in let before = rest.few (omega arith) in omega arith

-- the bytes of a catalog are short enough for a record
pub catalog_is_short : (c : Catalog) → IsCatalog c → length (bytes_of c) ≤ 65534
catalog_is_short c is =
    let few = is.few in
    let of_all = is.of_all in
    let ops = ops_are_short c.ops is.good in
    let rows = rows_are_short c.conflicts is.table in
    let long = length-append (flat_map op_bytes c.ops) (flat_map row_bytes c.conflicts) in
    by_test (leb 128 (length c.conflicts)) refl rows few of_all ops long
  where
    by_test : (t : Bool) → leb 128 (length c.conflicts) ≡ t → AreShort c.conflicts → length c.ops ≤ 256 → length c.conflicts ≡ length c.ops → length (flat_map op_bytes c.ops) ≤ 35 * length c.ops
        → length (flat_map op_bytes c.ops ++ flat_map row_bytes c.conflicts) ≡ length (flat_map op_bytes c.ops) + length (flat_map row_bytes c.conflicts) → length (bytes_of c) ≤ 65534
    by_test true is rows few of_all ops long = let size = rows.many (leb-true 128 (length c.conflicts) is) (omega arith) in omega arith
    by_test false is rows few of_all ops long = let small = leb-false 128 (length c.conflicts) is in let size = rows.few (omega arith) in omega arith
