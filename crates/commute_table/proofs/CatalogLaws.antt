-- Catalogs: what is read is spelled so, and what is spelled so is read.
use Rattle.std.proofs.Common.{◌≡◌, ℕ, zero, suc, ◌+◌, ◌*◌, ◌<◌, ◌≤◌, true, not, cond, List, [], ◌∷◌, ◌++◌, length, get_or, Result, Ok, Err, refl, sym, ap, ◌∙◌, subst, append_assoc, arith}
use Rattle.std.specs.Prelude.{nat_lt, nat_le, nat_eq, ◌==◌, ◌/◌, ◌%◌}
use Rattle.std.specs.List.{list_all, flat_map}
use Rattle.std.proofs.lemmas.Bool.{and_parts, leb-true, le-leb, ltb-true, eqb-true, eq-eqb, and_from}
use Rattle.std.proofs.lemmas.List.{append-nil}
use Rattle.std.proofs.lemmas.List.Concat.{flat_map-cons}
use Rattle.process_tree.specs.declared.conflicts.Mode.{Mode}
use Rattle.process_tree.specs.declared.conflicts.Mode.TheVariants.{Never, Key, Always}
use Rattle.process_tree.specs.Conflicts.{Table, is_table}
use Rattle.commute_table.specs.declared.op.Op.{Op}
use Rattle.commute_table.specs.declared.catalog.Catalog.{Catalog}
use Rattle.commute_table.specs.Operations.{is_version, has_mode, has_modes, has_name, is_good_op, differ_from, IsCatalog}
use Rattle.commute_table.specs.Bytes.{op_bytes, cell_byte, row_bytes, bytes_of, NoCatalogBeginsAnother}
use Rattle.commute_table.specs.Reading.{◌>>=◌, byte_at, count_at, op_at, ops_at, mode_with, is_cell, cells_at, rows_at, front_at, catalog_at}
use Rattle.commute_table.proofs.RowLoops.{bind_ok, ok_is}
use Rattle.commute_table.proofs.Fresh.{Follows, follows_more}
use Rattle.commute_table.proofs.OpLaws.{byte_read, byte_again, op_takes, op_again}
use Rattle.std.proofs.lemmas.Bool.{not-true}
use Rattle.std.proofs.Math.Dec.{eqb-suc-zero}

-- ---- operations

pub record OpsTake (n : ℕ) (earlier : List Op) (bytes : List ℕ) (x : List Op × List ℕ) : Type 0 where
  pub ops : List Op
  pub ops_is : x.0 ≡ earlier ++ ops
  pub parts : bytes ≡ flat_map op_bytes ops ++ x.1
  pub follow : Follows earlier ops n

pub ops_take : (n : ℕ) (earlier : List Op) (bytes : List ℕ) (x : List Op × List ℕ) → ops_at n earlier bytes ≡ Ok x → OpsTake n earlier bytes x
unfolding ops_at
ops_take zero earlier bytes x e =
    subst (λ (y : List Op × List ℕ). OpsTake 0 earlier bytes y) (ok_is (earlier, bytes) x e) (record { ops = []; ops_is = sym (append-nil earlier); parts = refl; follow = record { count_is = refl; good = refl; own_names = refl } })
ops_take (suc n) earlier bytes x e =
    let op = bind_ok (op_at earlier bytes) (λ op. ops_at n (earlier ++ op.0 ∷ []) op.1) x e in
    let first = op_takes earlier bytes op.0 op.1 in
    let rest = ops_take n (earlier ++ op.0.0 ∷ []) op.0.1 x op.2 in
    record {
      ops = op.0.0 ∷ rest.ops;
      ops_is = rest.ops_is ∙ append_assoc earlier (op.0.0 ∷ []) rest.ops;
      parts = first.parts ∙ ap (λ (r : List ℕ). op_bytes op.0.0 ++ r) rest.parts ∙ sym (append_assoc (op_bytes op.0.0) (flat_map op_bytes rest.ops) x.1) ∙ ap (λ (w : List ℕ). w ++ x.1) (sym (flat_map-cons op_bytes op.0.0 rest.ops));
      follow = follows_more earlier op.0.0 rest.ops n first.good first.new rest.follow;
    }

pub ops_again : (earlier ops : List Op) (rest : List ℕ) → list_all is_good_op ops ≡ true → differ_from earlier ops ≡ true → ops_at (length ops) earlier (flat_map op_bytes ops ++ rest) ≡ Ok (earlier ++ ops, rest)
unfolding ops_at
ops_again earlier [] rest good differ = rw (append-nil earlier) refl
ops_again earlier (op ∷ ops) rest good differ =
    let is = and_parts (is_good_op op) (list_all is_good_op ops) good in
    let names = and_parts (not (has_name op.name earlier)) (differ_from (earlier ++ op ∷ []) ops) differ in
    let regrouped : flat_map op_bytes (op ∷ ops) ++ rest ≡ op_bytes op ++ (flat_map op_bytes ops ++ rest) = ap (λ (w : List ℕ). w ++ rest) (flat_map-cons op_bytes op ops) ∙ append_assoc (op_bytes op) (flat_map op_bytes ops) rest in
    ap (ops_at (suc (length ops)) earlier) regrouped
    ∙ ap (λ (r : Result (Op × List ℕ) ℕ). r >>= λ op. ops_at (length ops) (earlier ++ op.0 ∷ []) op.1) (op_again earlier op (flat_map op_bytes ops ++ rest) is.0 (not-true _ names.0))
    ∙ ops_again (earlier ++ op ∷ []) ops rest is.1 names.1 ∙ rw (append_assoc earlier (op ∷ []) ops) refl

-- ---- pairs

pub record CellsTake (version n : ℕ) (done : List Mode) (bytes : List ℕ) (x : List Mode × List ℕ) : Type 0 where
  pub row : List Mode
  pub row_is : x.0 ≡ done ++ row
  pub parts : bytes ≡ row_bytes row ++ x.1
  pub count : length row ≡ n
  pub modes : list_all (has_mode version) row ≡ true

pub byte_of_cell : (b : ℕ) → b < 3 → cell_byte (mode_with b) ≡ b
byte_of_cell zero lt = refl
byte_of_cell (suc zero) lt = refl
byte_of_cell (suc (suc zero)) lt = refl
byte_of_cell (suc (suc (suc b))) lt = absurd (omega arith)

-- a cell's byte that was read
pub cell_taken : (version b : ℕ) → is_cell version b ≡ true → (cell_byte (mode_with b) ≡ b) × (has_mode version (mode_with b) ≡ true)
cell_taken version b ok =
    let is = and_parts (nat_lt b 3) (has_mode version (mode_with b)) ok in
    (byte_of_cell b (ltb-true b 3 is.0), is.1)

pub cells_take : (version n : ℕ) (done : List Mode) (bytes : List ℕ) (x : List Mode × List ℕ) → cells_at version n done bytes ≡ Ok x → CellsTake version n done bytes x
unfolding cells_at
cells_take version zero done bytes x e =
    subst (λ (y : List Mode × List ℕ). CellsTake version 0 done bytes y) (ok_is (done, bytes) x e) (record { row = []; row_is = sym (append-nil done); parts = refl; count = refl; modes = refl })
cells_take version (suc n) done bytes x e =
    let b = bind_ok (byte_at (is_cell version) bytes) (λ b. cells_at version n (done ++ mode_with b.0 ∷ []) b.1) x e in
    let byte = byte_read (is_cell version) bytes b.0 b.1 in
    let cell = cell_taken version b.0.0 byte.1 in
    let rest = cells_take version n (done ++ mode_with b.0.0 ∷ []) b.0.1 x b.2 in
    record {
      row = mode_with b.0.0 ∷ rest.row;
      row_is = rest.row_is ∙ append_assoc done (mode_with b.0.0 ∷ []) rest.row;
      parts = byte.0 ∙ ap (λ (r : List ℕ). b.0.0 ∷ r) rest.parts ∙ ap (λ (k : ℕ). k ∷ (row_bytes rest.row ++ x.1)) (sym cell.0);
      count = ap suc rest.count;
      modes = and_from _ _ cell.1 rest.modes;
    }

cell_is_small : (mode : Mode) → nat_lt (cell_byte mode) 3 ≡ true
cell_is_small Never = refl
cell_is_small Key = refl
cell_is_small Always = refl

cell_again : (mode : Mode) → mode_with (cell_byte mode) ≡ mode
cell_again Never = refl
cell_again Key = refl
cell_again Always = refl

cell_passes : (version : ℕ) (mode : Mode) → has_mode version mode ≡ true → is_cell version (cell_byte mode) ≡ true
cell_passes version mode has = and_from _ _ (cell_is_small mode) (rw (cell_again mode) has)

pub cells_again : (version : ℕ) (row done : List Mode) (rest : List ℕ) → list_all (has_mode version) row ≡ true → cells_at version (length row) done (row_bytes row ++ rest) ≡ Ok (done ++ row, rest)
unfolding cells_at
cells_again version [] done rest modes = rw (append-nil done) refl
cells_again version (c ∷ row) done rest modes =
    let has = and_parts (has_mode version c) (list_all (has_mode version) row) modes in
    ap (λ (r : Result (ℕ × List ℕ) ℕ). r >>= λ b. cells_at version (length row) (done ++ mode_with b.0 ∷ []) b.1) (byte_again (is_cell version) (cell_byte c) (row_bytes row ++ rest) (cell_passes version c has.0))
    ∙ ap (λ (d : Mode). cells_at version (length row) (done ++ d ∷ []) (row_bytes row ++ rest)) (cell_again c)
    ∙ cells_again version row (done ++ c ∷ []) rest has.1 ∙ rw (append_assoc done (c ∷ []) row) refl

pub record RowsTake (version n : ℕ) (done : Table) (bytes : List ℕ) (x : Table × List ℕ) : Type 0 where
  pub rows : Table
  pub rows_is : x.0 ≡ done ++ rows
  pub parts : bytes ≡ flat_map row_bytes rows ++ x.1
  pub count : length rows ≡ n
  pub table : is_table rows ≡ true
  pub modes : has_modes version rows ≡ true

pub rows_take : (version n : ℕ) (done : Table) (bytes : List ℕ) (x : Table × List ℕ) → rows_at version n done bytes ≡ Ok x → RowsTake version n done bytes x
unfolding rows_at
rows_take version zero done bytes x e =
    subst (λ (y : Table × List ℕ). RowsTake version 0 done bytes y) (ok_is (done, bytes) x e) (record { rows = []; rows_is = sym (append-nil done); parts = refl; count = refl; table = refl; modes = refl })
rows_take version (suc n) done bytes x e =
    let row = bind_ok (cells_at version (suc n) [] bytes) (λ row. rows_at version n (done ++ row.0 ∷ []) row.1) x e in
    let first = cells_take version (suc n) [] bytes row.0 row.1 in
    let rest = rows_take version n (done ++ row.0.0 ∷ []) row.0.1 x row.2 in
    let long : length row.0.0 ≡ suc (length rest.rows) = ap length first.row_is ∙ first.count ∙ ap suc (sym rest.count) in
    let has : list_all (has_mode version) row.0.0 ≡ true = ap (list_all (has_mode version)) first.row_is ∙ first.modes in
    record {
      rows = row.0.0 ∷ rest.rows;
      rows_is = rest.rows_is ∙ append_assoc done (row.0.0 ∷ []) rest.rows;
      parts = first.parts ∙ ap (λ (r : List Mode). row_bytes r ++ row.0.1) (sym first.row_is) ∙ ap (λ (r : List ℕ). row_bytes row.0.0 ++ r) rest.parts ∙ sym (append_assoc (row_bytes row.0.0) (flat_map row_bytes rest.rows) x.1) ∙ ap (λ (w : List ℕ). w ++ x.1) (sym (flat_map-cons row_bytes row.0.0 rest.rows));
      count = ap suc rest.count;
      table = and_from _ _ (eq-eqb _ _ long) rest.table;
      modes = and_from _ _ has rest.modes;
    }

pub rows_again : (version : ℕ) (rows done : Table) (rest : List ℕ) → is_table rows ≡ true → has_modes version rows ≡ true → rows_at version (length rows) done (flat_map row_bytes rows ++ rest) ≡ Ok (done ++ rows, rest)
unfolding rows_at
rows_again version [] done rest table modes = rw (append-nil done) refl
rows_again version (row ∷ rows) done rest table modes =
    let is = and_parts (nat_eq (length row) (suc (length rows))) (is_table rows) table in
    let has = and_parts (list_all (has_mode version) row) (has_modes version rows) modes in
    let long : length row ≡ suc (length rows) = eqb-true _ _ is.0 in
    let regrouped : flat_map row_bytes (row ∷ rows) ++ rest ≡ row_bytes row ++ (flat_map row_bytes rows ++ rest) = ap (λ (w : List ℕ). w ++ rest) (flat_map-cons row_bytes row rows) ∙ append_assoc (row_bytes row) (flat_map row_bytes rows) rest in
    let read : cells_at version (suc (length rows)) [] (row_bytes row ++ (flat_map row_bytes rows ++ rest)) ≡ Ok (row, flat_map row_bytes rows ++ rest) = rw (← long) (cells_again version row [] (flat_map row_bytes rows ++ rest) has.0) in
    ap (rows_at version (suc (length rows)) done) regrouped
    ∙ ap (λ (r : Result (List Mode × List ℕ) ℕ). r >>= λ row. rows_at version (length rows) (done ++ row.0 ∷ []) row.1) read
    ∙ rows_again version rows (done ++ row ∷ []) rest is.1 has.1 ∙ rw (append_assoc done (row ∷ []) rows) refl

-- ---- the number of operations

pub record CountTakes (bytes : List ℕ) (x : ℕ × List ℕ) : Type 0 where
  pub parts : bytes ≡ x.0 % 256 ∷ x.0 / 256 ∷ x.1
  pub few : x.0 ≤ 256

pub count_takes : (bytes : List ℕ) (x : ℕ × List ℕ) → get_or bytes 0 0 < 256 → count_at bytes ≡ Ok x → CountTakes bytes x
unfolding count_at
count_takes bytes x byte e =
    let low = bind_ok (byte_at (λ _. true) bytes) (λ low. byte_at (λ b. nat_le (low.0 + 256 * b) 256) low.1 >>= λ high. Ok (low.0 + 256 * high.0, high.1)) x e in
    let high = bind_ok (byte_at (λ b. nat_le (low.0.0 + 256 * b) 256) low.0.1) (λ high. Ok (low.0.0 + 256 * high.0, high.1)) x low.2 in
    let first = byte_read (λ _. true) bytes low.0 low.1 in
    let second = byte_read (λ b. nat_le (low.0.0 + 256 * b) 256) low.0.1 high.0 high.1 in
    let few : low.0.0 + 256 * high.0.0 ≤ 256 = leb-true _ _ second.1 in
    let small : low.0.0 < 256 = let same : get_or bytes 0 0 ≡ low.0.0 = ap (λ (w : List ℕ). get_or w 0 0) first.0 in omega (arith, same, byte) in
    let n : ℕ = low.0.0 + 256 * high.0.0 in
    let n_is : n ≡ low.0.0 + 256 * high.0.0 = refl in
    let low_is : n % 256 ≡ low.0.0 = omega (arith, n_is, small) in
    let high_is : n / 256 ≡ high.0.0 = omega (arith, n_is, small) in
    let made : ℕ × List ℕ = (n, high.0.1) in
    subst (λ (y : ℕ × List ℕ). CountTakes bytes y) (ok_is made x high.2) (record { parts = first.0 ∙ ap (λ (r : List ℕ). low.0.0 ∷ r) second.0 ∙ rw (low_is, high_is) refl; few = few })

pub count_again : (n : ℕ) (rest : List ℕ) → n ≤ 256 → count_at (n % 256 ∷ n / 256 ∷ rest) ≡ Ok (n, rest)
unfolding count_at
count_again n rest few =
    let whole : n % 256 + 256 * (n / 256) ≡ n = omega arith in
    rw (byte_again (λ b. nat_le (n % 256 + 256 * b) 256) (n / 256) rest (le-leb _ _ (omega (arith, whole))), whole) refl

-- ---- catalogs

pub record FrontTakes (bytes : List ℕ) (x : Catalog × List ℕ) : Type 0 where
  pub parts : bytes ≡ bytes_of x.0 ++ x.1
  pub valid : IsCatalog x.0

-- the bytes of its parts are those of the catalog
front_spelled : (bytes a b c rest : List ℕ) (v n : ℕ) (all ops : List Op) (table rows : Table) → bytes ≡ v ∷ a → a ≡ n % 256 ∷ n / 256 ∷ b → b ≡ flat_map op_bytes ops ++ c → all ≡ ops → c ≡ flat_map row_bytes rows ++ rest → table ≡ rows → length all ≡ n
    → bytes ≡ bytes_of (record { version = v; ops = all; conflicts = table }) ++ rest
front_spelled bytes a b c rest v n all ops table rows e1 e3 e4 e5 e6 e7 e8 =
    rw (e1, e3, e4, e6, e8, e5, e7) (ap (λ (r : List ℕ). v ∷ n % 256 ∷ n / 256 ∷ r) (sym (append_assoc (flat_map op_bytes ops) (flat_map row_bytes rows) rest)))

pub front_takes : (bytes : List ℕ) (x : Catalog × List ℕ) → get_or bytes 1 0 < 256 → front_at bytes ≡ Ok x → FrontTakes bytes x
unfolding front_at
front_takes bytes x byte e =
    let version = bind_ok (byte_at is_version bytes) (λ version. count_at version.1 >>= λ n. ops_at n.0 [] n.1 >>= λ ops. rows_at version.0 n.0 [] ops.1 >>= λ rows. Ok (record { version = version.0; ops = ops.0; conflicts = rows.0 }, rows.1)) x e in
    let n = bind_ok (count_at version.0.1) (λ n. ops_at n.0 [] n.1 >>= λ ops. rows_at version.0.0 n.0 [] ops.1 >>= λ rows. Ok (record { version = version.0.0; ops = ops.0; conflicts = rows.0 }, rows.1)) x version.2 in
    let ops = bind_ok (ops_at n.0.0 [] n.0.1) (λ ops. rows_at version.0.0 n.0.0 [] ops.1 >>= λ rows. Ok (record { version = version.0.0; ops = ops.0; conflicts = rows.0 }, rows.1)) x n.2 in
    let rows = bind_ok (rows_at version.0.0 n.0.0 [] ops.0.1) (λ rows. Ok (record { version = version.0.0; ops = ops.0.0; conflicts = rows.0 }, rows.1)) x ops.2 in
    let first = byte_read is_version bytes version.0 version.1 in
    let second : get_or version.0.1 0 0 < 256 = let same : get_or bytes 1 0 ≡ get_or version.0.1 0 0 = ap (λ (w : List ℕ). get_or w 1 0) first.0 in omega (arith, same, byte) in
    let count = count_takes version.0.1 n.0 second n.1 in
    let all = ops_take n.0.0 [] n.0.1 ops.0 ops.1 in
    let table = rows_take version.0.0 n.0.0 [] ops.0.1 rows.0 rows.1 in
    let many : length ops.0.0 ≡ n.0.0 = ap length all.ops_is ∙ all.follow.count_is in
    let made : Catalog × List ℕ = (record { version = version.0.0; ops = ops.0.0; conflicts = rows.0.0 }, rows.0.1) in
    let spelled : bytes ≡ bytes_of made.0 ++ rows.0.1 =
    front_spelled bytes version.0.1 n.0.1 ops.0.1 rows.0.1 version.0.0 n.0.0 ops.0.0 all.ops rows.0.0 table.rows first.0 count.parts all.parts all.ops_is table.parts table.rows_is many in
    subst (λ (y : Catalog × List ℕ). FrontTakes bytes y) (ok_is made x rows.2) (record {
      parts = spelled;
      valid = record {
        version = first.1;
        few = omega (arith, many, count.few);
        good = rw all.ops_is all.follow.good;
        own_names = rw all.ops_is all.follow.own_names;
        table = rw table.rows_is table.table;
        of_all = ap length table.rows_is ∙ table.count ∙ sym many;
        modes = rw table.rows_is table.modes;
      };
    })

pub front_again : (c : Catalog) (rest : List ℕ) → IsCatalog c → front_at (bytes_of c ++ rest) ≡ Ok (c, rest)
unfolding front_at
front_again c rest valid =
    let regrouped : (flat_map op_bytes c.ops ++ flat_map row_bytes c.conflicts) ++ rest ≡ flat_map op_bytes c.ops ++ (flat_map row_bytes c.conflicts ++ rest) = append_assoc (flat_map op_bytes c.ops) (flat_map row_bytes c.conflicts) rest in
    let rows : rows_at c.version (length c.ops) [] (flat_map row_bytes c.conflicts ++ rest) ≡ Ok (c.conflicts, rest) = rw (← valid.of_all) (rows_again c.version c.conflicts [] rest valid.table valid.modes) in
    rw (byte_again is_version c.version (length c.ops % 256 ∷ length c.ops / 256 ∷ ((flat_map op_bytes c.ops ++ flat_map row_bytes c.conflicts) ++ rest)) valid.version, count_again (length c.ops) ((flat_map op_bytes c.ops ++ flat_map row_bytes c.conflicts) ++ rest) valid.few, regrouped, ops_again [] c.ops (flat_map row_bytes c.conflicts ++ rest) valid.good valid.own_names, rows) refl

-- what is read is a catalog, and the bytes are its own
pub catalog_takes : (bytes : List ℕ) (c : Catalog) → get_or bytes 1 0 < 256 → catalog_at bytes ≡ Ok c → (bytes ≡ bytes_of c) × IsCatalog c
unfolding catalog_at
catalog_takes bytes c byte e =
    let front = bind_ok (front_at bytes) (λ c. cond (length c.1 == 0) (Ok c.0) (Err (length c.1))) c e in
    let taken = front_takes bytes front.0 byte front.1 in
    let ended = at_end front.0.0 c front.0.1 front.2 in
    subst (λ (d : Catalog). (bytes ≡ bytes_of d) × IsCatalog d) ended.1 (taken.parts ∙ rw ended.0 (append-nil (bytes_of front.0.0)), taken.valid)
  where
    not_ok : (left : ℕ) (c : Catalog) → Err left ≡ Ok c → ⊥
    not_ok left c e = cc

    at_end : (d c : Catalog) (rest : List ℕ) → cond (length rest == 0) (Ok d) (Err (length rest)) ≡ Ok c → (rest ≡ []) × (d ≡ c)
    at_end d c [] e = (refl, cc)
    at_end d c (b ∷ bs) e = absurd (not_ok (suc (length bs)) c (sym (rw (eqb-suc-zero (length bs)) refl) ∙ e))

-- a catalog's bytes are read
pub catalog_again : (c : Catalog) → IsCatalog c → catalog_at (bytes_of c) ≡ Ok c
unfolding catalog_at
catalog_again c valid =
    let front : front_at (bytes_of c) ≡ Ok (c, []) = ap front_at (sym (append-nil (bytes_of c))) ∙ front_again c [] valid in
    rw front refl

-- what is read of a catalog's bytes is that catalog
pub read_is : (bytes : List ℕ) (c d : Catalog) → IsCatalog d → bytes ≡ bytes_of d → catalog_at bytes ≡ Ok c → c ≡ d
read_is bytes c d valid e h = is_one c d (sym h ∙ ap catalog_at e ∙ catalog_again d valid)
  where
    is_one : (c d : Catalog) → (let r : Result Catalog ℕ = Ok c in r ≡ Ok d) → c ≡ d
    is_one c d e = cc

pub unread_is : (bytes : List ℕ) (left : ℕ) (d : Catalog) → IsCatalog d → bytes ≡ bytes_of d → catalog_at bytes ≡ Err left → ⊥
unread_is bytes left d valid e h = is_none left d (sym h ∙ ap catalog_at e ∙ catalog_again d valid)
  where
    is_none : (left : ℕ) (d : Catalog) → (let r : Result Catalog ℕ = Err left in r ≡ Ok d) → ⊥
    is_none left d e = cc

-- no catalog begins another
pub none_begins_another : NoCatalogBeginsAnother
none_begins_another c d rest valid_c valid_d same =
    let whole : front_at (bytes_of d) ≡ Ok (d, []) = ap front_at (sym (append-nil (bytes_of d))) ∙ front_again d [] valid_d in
    parts (sym whole ∙ ap front_at same ∙ front_again c rest valid_c)
  where
    parts : (let r : Result (Catalog × List ℕ) ℕ = Ok (d, []) in r ≡ Ok (c, rest)) → (rest ≡ []) × (d ≡ c)
    parts e =
        let first : Catalog × List ℕ = (d, []) in
        let second : Catalog × List ℕ = (c, rest) in
        let both : first ≡ second = cc in
        (sym (ap (λ (x : Catalog × List ℕ). x.1) both), ap (λ (x : Catalog × List ℕ). x.0) both)
