-- The place where reading a catalog stops is the first that rules out every catalog.
use Rattle.std.proofs.Common.{◌≡◌, ℕ, zero, suc, ◌+◌, ◌-◌, ◌*◌, ◌^◌, ◌<◌, ◌≤◌, true, false, cond, List, [], ◌∷◌, ◌++◌, length, get_or, take, drop, Result, Ok, Err, refl, sym, ap, ◌∙◌, subst, append_assoc, arith, inl, inr}
use Rattle.std.specs.Prelude.{nat_le, nat_eq, ◌==◌, ◌/◌, ◌%◌, replicate, slice_get, IsErr}
use Rattle.std.specs.List.{list_all, flat_map}
use Rattle.std.proofs.lemmas.Bool.{and_parts, eqb-true, eq-eqb, and_from}
use Rattle.std.proofs.lemmas.List.{length-append, append-nil, length-replicate, take_at, take-append-drop}
use Rattle.std.proofs.lemmas.List.Concat.{flat_map-cons}
use Rattle.std.proofs.Math.Dec.{eqb-suc-zero}
use Rattle.process_tree.specs.declared.conflicts.Mode.{Mode}
use Rattle.process_tree.specs.declared.conflicts.Mode.TheVariants.{Never}
use Rattle.process_tree.specs.Conflicts.{Table, is_table, no_conflicts}
use Rattle.process_tree.proofs.Tables.{is_table-no_conflicts, length-no_conflicts}
use Rattle.process_tree.specs.Name.{is_name}
use Rattle.std.proofs.lemmas.List.{length-map}
use Rattle.commute_table.specs.declared.op.Op.{Op}
use Rattle.commute_table.specs.declared.catalog.Catalog.{Catalog}
use Rattle.commute_table.specs.Operations.{is_version, has_mode, has_modes, has_name, is_good_op, IsCatalog}
use Rattle.commute_table.specs.Bytes.{op_bytes, row_bytes, bytes_of, cell_byte, verb_code, GoesOn, IsFirstBad}
use Rattle.commute_table.specs.Reading.{◌>>=◌, byte_at, count_at, op_at, ops_at, mode_with, is_cell, cells_at, rows_at, front_at, catalog_at}
use Rattle.commute_table.proofs.Stops.{Stops, catalog_stops, head_of, bind_err}
use Rattle.commute_table.proofs.Fresh.{Follows, follows_more, fill}
use Rattle.commute_table.proofs.OpLaws.{byte_read, op_takes, name_is_short}
use Rattle.commute_table.proofs.CatalogLaws.{ops_take, cells_take, count_takes, front_takes, catalog_again, cell_taken}
use Rattle.commute_table.proofs.Modes.{has_never, has_modes-no_conflicts}
use Rattle.commute_table.proofs.Begun.{Begun, begun_after, begun_longer, begun_same, byte_begun, not_err, left_of, op_begun}

-- ---- operations

-- the bytes of so many operations that can follow
abbrev pub AreOpsBytes : List Op → ℕ → List ℕ → Type 0
AreOpsBytes earlier n w = (ops : List Op) × Follows earlier ops n × (w ≡ flat_map op_bytes ops)

-- one, and then such as can follow it
one_more : (earlier : List Op) (n : ℕ) (op : Op) (w : List ℕ) → is_good_op op ≡ true → has_name op.name earlier ≡ false → AreOpsBytes (earlier ++ op ∷ []) n w → AreOpsBytes earlier (suc n) (op_bytes op ++ w)
one_more earlier n op w good new h = (op ∷ h.0, follows_more earlier op h.0 n good new h.1, ap (λ (r : List ℕ). op_bytes op ++ r) h.2 ∙ sym (flat_map-cons op_bytes op h.0))

pub ops_begun : (n : ℕ) (earlier : List Op) (bytes : List ℕ) (left : ℕ) → length earlier + n ≤ 256 → ops_at n earlier bytes ≡ Err left → Begun (AreOpsBytes earlier n) bytes left
unfolding ops_at
ops_begun zero earlier bytes left le e = absurd (not_err (earlier, bytes) left e)
ops_begun (suc n) earlier bytes left le e =
    elim (bind_err (op_at earlier bytes) (λ op. ops_at n (earlier ++ op.0 ∷ []) op.1) left e) [
      | inl d ↦
          let b = op_begun earlier bytes left (omega arith) d in
          let op = b.word.0 in
          let rest = fill n (earlier ++ op ∷ []) (omega (arith, length-append earlier (op ∷ []))) in
          record {
            front = b.front;
            back = b.back;
            parts = b.parts;
            left_is = b.left_is;
            more = b.more ++ flat_map op_bytes rest.0;
            word = subst (AreOpsBytes earlier (suc n)) (ap (λ (w : List ℕ). w ++ flat_map op_bytes rest.0) (sym b.word.3) ∙ append_assoc b.front b.more (flat_map op_bytes rest.0))
                (one_more earlier n op (flat_map op_bytes rest.0) b.word.1 b.word.2 (rest.0, rest.1, refl));
          }
      | inr d ↦
          let first = op_takes earlier bytes d.0 d.1 in
          begun_after (AreOpsBytes earlier (suc n)) bytes (op_bytes d.0.0) d.0.1 left first.parts
          (begun_same (AreOpsBytes (earlier ++ d.0.0 ∷ []) n) (λ w. AreOpsBytes earlier (suc n) (op_bytes d.0.0 ++ w)) d.0.1 left (λ w h. one_more earlier n d.0.0 w first.good first.new h)
          (ops_begun n (earlier ++ d.0.0 ∷ []) d.0.1 left (omega (arith, length-append earlier (d.0.0 ∷ []))) d.2))
    ]

-- ---- pairs

abbrev pub AreCells : ℕ → ℕ → List ℕ → Type 0
AreCells version n w = (row : List Mode) × (length row ≡ n) × (list_all (has_mode version) row ≡ true) × (w ≡ row_bytes row)

pub cells_begun : (version n : ℕ) (done : List Mode) (bytes : List ℕ) (left : ℕ) → cells_at version n done bytes ≡ Err left → Begun (AreCells version n) bytes left
unfolding cells_at
cells_begun version zero done bytes left e = absurd (not_err (done, bytes) left e)
cells_begun version (suc n) done bytes left e =
    elim (bind_err (byte_at (is_cell version) bytes) (λ b. cells_at version n (done ++ mode_with b.0 ∷ []) b.1) left e) [
      | inl d ↦ byte_begun (AreCells version (suc n)) (is_cell version) bytes (row_bytes (replicate (suc n) Never)) left d (replicate (suc n) Never, length-replicate (suc n) Never, has_never version (suc n), refl)
      | inr d ↦
          let byte = byte_read (is_cell version) bytes d.0 d.1 in
          let cell = cell_taken version d.0.0 byte.1 in
          begun_after (AreCells version (suc n)) bytes (d.0.0 ∷ []) d.0.1 left byte.0
          (begun_same (AreCells version n) (λ w. AreCells version (suc n) (d.0.0 ∷ w)) d.0.1 left (λ w h. (mode_with d.0.0 ∷ h.0, ap suc h.1, and_from _ _ cell.1 h.2, ap (λ (r : List ℕ). d.0.0 ∷ r) h.3 ∙ ap (λ (k : ℕ). k ∷ row_bytes h.0) (sym cell.0)))
          (cells_begun version n (done ++ mode_with d.0.0 ∷ []) d.0.1 left d.2))
    ]

-- a table of so many operations that a catalog of the version can have
pub record IsFit (version n : ℕ) (rows : Table) : Type 0 where
  pub count : length rows ≡ n
  pub table : is_table rows ≡ true
  pub modes : has_modes version rows ≡ true

abbrev pub AreRows : ℕ → ℕ → List ℕ → Type 0
AreRows version n w = (rows : Table) × IsFit version n rows × (w ≡ flat_map row_bytes rows)

one_row : (version n : ℕ) (row : List Mode) (w : List ℕ) → length row ≡ suc n → list_all (has_mode version) row ≡ true → AreRows version n w → AreRows version (suc n) (row_bytes row ++ w)
one_row version n row w long has h = (
  row ∷ h.0,
  record { count = ap suc h.1.count; table = and_from _ _ (eq-eqb _ _ (long ∙ ap suc (sym h.1.count))) h.1.table; modes = and_from _ _ has h.1.modes },
  ap (λ (r : List ℕ). row_bytes row ++ r) h.2 ∙ sym (flat_map-cons row_bytes row h.0),
)

empty_is_fit : (version n : ℕ) → IsFit version n (no_conflicts n)
empty_is_fit version n = record { count = length-no_conflicts n; table = is_table-no_conflicts n; modes = has_modes-no_conflicts version n }

no_rows : (version n : ℕ) → AreRows version n (flat_map row_bytes (no_conflicts n))
no_rows version n = (no_conflicts n, empty_is_fit version n, refl)

pub rows_begun : (version n : ℕ) (done : Table) (bytes : List ℕ) (left : ℕ) → rows_at version n done bytes ≡ Err left → Begun (AreRows version n) bytes left
unfolding rows_at
rows_begun version zero done bytes left e = absurd (not_err (done, bytes) left e)
rows_begun version (suc n) done bytes left e =
    elim (bind_err (cells_at version (suc n) [] bytes) (λ row. rows_at version n (done ++ row.0 ∷ []) row.1) left e) [
      | inl d ↦
          let others = flat_map row_bytes (no_conflicts n) in
          begun_longer (AreCells version (suc n)) (AreRows version (suc n)) others bytes left (λ w h. subst (λ (v : List ℕ). AreRows version (suc n) (v ++ others)) (sym h.3) (one_row version n h.0 others h.1 h.2 (no_rows version n))) (cells_begun version (suc n) [] bytes left d)
      | inr d ↦
          let first = cells_take version (suc n) [] bytes d.0 d.1 in
          begun_after (AreRows version (suc n)) bytes (row_bytes first.row) d.0.1 left first.parts
          (begun_same (AreRows version n) (λ w. AreRows version (suc n) (row_bytes first.row ++ w)) d.0.1 left (λ w h. one_row version n first.row w first.count first.modes h) (rows_begun version n (done ++ d.0.0 ∷ []) d.0.1 left d.2))
    ]

-- ---- catalogs

-- the bytes of a catalog
abbrev pub IsCatalogBytes : List ℕ → Type 0
IsCatalogBytes w = (c : Catalog) × IsCatalog c × (w ≡ bytes_of c)

-- what stands behind the version and the number of operations
abbrev pub IsBehindCount : ℕ → ℕ → List ℕ → Type 0
IsBehindCount version n w = IsCatalogBytes (version ∷ n % 256 ∷ n / 256 ∷ w)

-- a catalog of these operations and pairs
made_of : (version n : ℕ) (ops : List Op) (rows : Table) → is_version version ≡ true → n ≤ 256 → Follows [] ops n → IsFit version n rows → IsBehindCount version n (flat_map op_bytes ops ++ flat_map row_bytes rows)
made_of version n ops rows is few follow fit =
    let c : Catalog = record { version = version; ops = ops; conflicts = rows } in
    let counted : version ∷ n % 256 ∷ n / 256 ∷ (flat_map op_bytes ops ++ flat_map row_bytes rows) ≡ bytes_of c = rw follow.count_is refl in
    (c, record { version = is; few = omega (arith, follow.count_is); good = follow.good; own_names = follow.own_names; table = fit.table; of_all = fit.count ∙ sym follow.count_is; modes = fit.modes }, counted)

-- a catalog that isn't read
abbrev unread : ℕ → Result (Catalog × List ℕ) ℕ
unread left = Err left

-- some catalog of so many operations
some_catalog : (version n : ℕ) → is_version version ≡ true → n ≤ 256 → (w : List ℕ) × IsBehindCount version n w
some_catalog version n is few =
    let ops = fill n [] (omega arith) in
    (flat_map op_bytes ops.0 ++ flat_map row_bytes (no_conflicts n), made_of version n ops.0 (no_conflicts n) is few ops.1 (empty_is_fit version n))

-- behind the operations
pairs_begun : (version n : ℕ) (ops : List Op) (bytes : List ℕ) (left : ℕ) → is_version version ≡ true → n ≤ 256 → Follows [] ops n
    → (rows_at version n [] bytes >>= λ rows. Ok (record { version = version; ops = ops; conflicts = rows.0 }, rows.1)) ≡ unread left
    → Begun (λ w. IsBehindCount version n (flat_map op_bytes ops ++ w)) bytes left
pairs_begun version n ops bytes left is few follow e =
    elim (bind_err (rows_at version n [] bytes) (λ rows. Ok (record { version = version; ops = ops; conflicts = rows.0 }, rows.1)) left e) [
      | inl d ↦ begun_same (AreRows version n) (λ w. IsBehindCount version n (flat_map op_bytes ops ++ w)) bytes left (λ w h. subst (λ (v : List ℕ). IsBehindCount version n (flat_map op_bytes ops ++ v)) (sym h.2) (made_of version n ops h.0 is few follow h.1)) (rows_begun version n [] bytes left d)
      | inr d ↦ absurd (not_err {A = Catalog × List ℕ} _ left d.2)
    ]

-- behind the number of operations
parts_begun : (version n : ℕ) (bytes : List ℕ) (left : ℕ) → is_version version ≡ true → n ≤ 256
    → (ops_at n [] bytes >>= λ ops. rows_at version n [] ops.1 >>= λ rows. Ok (record { version = version; ops = ops.0; conflicts = rows.0 }, rows.1)) ≡ unread left
    → Begun (IsBehindCount version n) bytes left
parts_begun version n bytes left is few e =
    elim (bind_err (ops_at n [] bytes) (λ ops. rows_at version n [] ops.1 >>= λ rows. Ok (record { version = version; ops = ops.0; conflicts = rows.0 }, rows.1)) left e) [
      | inl d ↦
          let pairs = flat_map row_bytes (no_conflicts n) in
          begun_longer (AreOpsBytes [] n) (IsBehindCount version n) pairs bytes left (λ w h. subst (λ (v : List ℕ). IsBehindCount version n (v ++ pairs)) (sym h.2) (made_of version n h.0 (no_conflicts n) is few h.1 (empty_is_fit version n))) (ops_begun n [] bytes left (omega arith) d)
      | inr d ↦
          let all = ops_take n [] bytes d.0 d.1 in
          let ops_is : d.0.0 ≡ all.ops = all.ops_is in
          begun_after (IsBehindCount version n) bytes (flat_map op_bytes d.0.0) d.0.1 left (all.parts ∙ ap (λ (os : List Op). flat_map op_bytes os ++ d.0.1) (sym ops_is))
          (pairs_begun version n d.0.0 d.0.1 left is few (subst (λ (os : List Op). Follows [] os n) (sym ops_is) all.follow) d.2)
    ]

-- in the number of operations
count_begun : (version : ℕ) (bytes : List ℕ) (left : ℕ) → is_version version ≡ true → get_or bytes 0 0 < 256 → count_at bytes ≡ Err left → Begun (λ w. IsCatalogBytes (version ∷ w)) bytes left
unfolding count_at
count_begun version bytes left is byte e =
    elim (bind_err (byte_at (λ _. true) bytes) (λ low. byte_at (λ b. nat_le (low.0 + 256 * b) 256) low.1 >>= λ high. Ok (low.0 + 256 * high.0, high.1)) left e) [
      | inl d ↦ let c = some_catalog version 0 is (omega arith) in byte_begun (λ w. IsCatalogBytes (version ∷ w)) (λ _. true) bytes (0 ∷ 0 ∷ c.0) left d c.1
      | inr d ↦
          let first = byte_read (λ _. true) bytes d.0 d.1 in
          let small : d.0.0 < 256 = let same : get_or bytes 0 0 ≡ d.0.0 = ap (λ (w : List ℕ). get_or w 0 0) first.0 in omega (arith, same, byte) in
          elim (bind_err (byte_at (λ b. nat_le (d.0.0 + 256 * b) 256) d.0.1) (λ high. Ok (d.0.0 + 256 * high.0, high.1)) left d.2) [
            | inl f ↦
                let c = some_catalog version d.0.0 is (omega arith) in
                let low : d.0.0 % 256 ≡ d.0.0 = omega arith in
                begun_after (λ w. IsCatalogBytes (version ∷ w)) bytes (d.0.0 ∷ []) d.0.1 left first.0
                (byte_begun (λ w. IsCatalogBytes (version ∷ d.0.0 ∷ w)) (λ b. nat_le (d.0.0 + 256 * b) 256) d.0.1 (d.0.0 / 256 ∷ c.0) left f (subst (λ (k : ℕ). IsCatalogBytes (version ∷ k ∷ d.0.0 / 256 ∷ c.0)) low c.1))
            | inr f ↦ absurd (not_err {A = ℕ × List ℕ} _ left f.2)
          ]
    ]

pub front_begun : (bytes : List ℕ) (left : ℕ) → get_or bytes 1 0 < 256 → front_at bytes ≡ Err left → Begun IsCatalogBytes bytes left
unfolding front_at
front_begun bytes left byte e =
    elim (bind_err (byte_at is_version bytes) (λ version. count_at version.1 >>= λ n. ops_at n.0 [] n.1 >>= λ ops. rows_at version.0 n.0 [] ops.1 >>= λ rows. Ok (record { version = version.0; ops = ops.0; conflicts = rows.0 }, rows.1)) left e) [
      | inl d ↦ let c = some_catalog 1 0 refl (omega arith) in byte_begun IsCatalogBytes is_version bytes (1 ∷ 0 ∷ 0 ∷ c.0) left d c.1
      | inr d ↦
          let first = byte_read is_version bytes d.0 d.1 in
          let version = d.0.0 in
          let second : get_or d.0.1 0 0 < 256 = let same : get_or bytes 1 0 ≡ get_or d.0.1 0 0 = ap (λ (w : List ℕ). get_or w 1 0) first.0 in omega (arith, same, byte) in
          begun_after IsCatalogBytes bytes (version ∷ []) d.0.1 left first.0
          (elim (bind_err (count_at d.0.1) (λ n. ops_at n.0 [] n.1 >>= λ ops. rows_at version n.0 [] ops.1 >>= λ rows. Ok (record { version = version; ops = ops.0; conflicts = rows.0 }, rows.1)) left d.2) [
            | inl f ↦ count_begun version d.0.1 left first.1 second f
            | inr f ↦
                let count = count_takes d.0.1 f.0 second f.1 in
                begun_after (λ w. IsCatalogBytes (version ∷ w)) d.0.1 (f.0.0 % 256 ∷ f.0.0 / 256 ∷ []) f.0.1 left count.parts (parts_begun version f.0.0 f.0.1 left first.1 count.few f.2)
          ])
    ]

pub catalog_begun : (bytes : List ℕ) (left : ℕ) → get_or bytes 1 0 < 256 → catalog_at bytes ≡ Err left → Begun IsCatalogBytes bytes left
unfolding catalog_at
catalog_begun bytes left byte e =
    elim (bind_err (front_at bytes) (λ c. cond (length c.1 == 0) (Ok c.0) (Err (length c.1))) left e) [
      | inl d ↦ front_begun bytes left byte d
      | inr d ↦
          let taken = front_takes bytes d.0 byte d.1 in
          record { front = bytes_of d.0.0; back = d.0.1; parts = taken.parts; left_is = rest_left d.0.0 d.0.1 left d.2; more = []; word = (d.0.0, taken.valid, append-nil (bytes_of d.0.0)) }
    ]
  where
    rest_left : (c : Catalog) (rest : List ℕ) (left : ℕ) → cond (length rest == 0) (Ok c) (Err (length rest)) ≡ Err left → length rest ≡ left
    rest_left c [] left e = absurd cc
    rest_left c (b ∷ bs) left e = left_of {A = Catalog} (suc (length bs)) left (sym (rw (eqb-suc-zero (length bs)) refl) ∙ e)

-- ---- the place

-- of one word in two parts, the first parts are equal if they are equally long
same_front : (a b c d : List ℕ) → a ++ b ≡ c ++ d → length b ≡ length d → a ≡ c
same_front a b c d e same =
    let long : length a ≡ length c = let all = ap length e in omega (arith, all, same, length-append a b, length-append c d) in
    sym (take_at a b (length c) long) ∙ ap (take (length c)) e ∙ take_at c d (length c) refl

get_head : (xs : List ℕ) → slice_get xs 0 ≡ head_of xs
get_head [] = refl
get_head (x ∷ xs) = refl

get_behind : (front back : List ℕ) → slice_get (front ++ back) (length front) ≡ head_of back
get_behind [] back = get_head back
get_behind (b ∷ front) back = get_behind front back

get_within : (front xs ys : List ℕ) (k : ℕ) → k < length front → slice_get (front ++ xs) k ≡ slice_get (front ++ ys) k
get_within [] xs ys k lt = absurd (omega arith)
get_within (b ∷ front) xs ys zero lt = refl
get_within (b ∷ front) xs ys (suc k) lt = get_within front xs ys k (omega arith)

take_within : (front xs ys : List ℕ) (k : ℕ) → k < length front → take k (front ++ xs) ≡ take k (front ++ ys)
take_within [] xs ys k lt = absurd (omega arith)
take_within (b ∷ front) xs ys zero lt = refl
take_within (b ∷ front) xs ys (suc k) lt = ap (λ (w : List ℕ). b ∷ w) (take_within front xs ys k (omega arith))

-- what stands before the place begins some catalog
goes_on_before : (bytes : List ℕ) (left : ℕ) (b : Begun IsCatalogBytes bytes left) (k : ℕ) → k < length b.front → GoesOn bytes k
goes_on_before bytes left b k lt =
    let front_is = b.word.2 in (
      b.word.0,
      b.word.1,
      ap (take k) (sym front_is) ∙ take_within b.front b.more b.back k lt ∙ ap (take k) (sym b.parts),
      ap (λ (w : List ℕ). slice_get w k) (sym front_is) ∙ get_within b.front b.more b.back k lt ∙ ap (λ (w : List ℕ). slice_get w k) (sym b.parts),
    )

-- at the place none does
stops_there : (bytes : List ℕ) (left : ℕ) (s : Stops catalog_at bytes left) (b : Begun IsCatalogBytes bytes left) → s.front ≡ b.front → ¬ GoesOn bytes (length b.front)
stops_there bytes left s b same = λ on.
    let w = bytes_of on.0 in
    let n = length b.front in
    let front : take n w ≡ b.front = on.2 ∙ ap (take n) b.parts ∙ take_at b.front b.back n refl in
    let parts : w ≡ b.front ++ drop n w = sym (take-append-drop n w) ∙ ap (λ (f : List ℕ). f ++ drop n w) front in
    let next : head_of (drop n w) ≡ head_of s.back =
    sym (get_behind b.front (drop n w)) ∙ ap (λ (v : List ℕ). slice_get v n) (sym parts) ∙ on.3 ∙ ap (λ (v : List ℕ). slice_get v n) (s.parts ∙ ap (λ (f : List ℕ). f ++ s.back) same) ∙ get_behind b.front s.back in
    let refused = s.always (drop n w) next in
    let read : catalog_at (s.front ++ drop n w) ≡ Ok on.0 = ap catalog_at (ap (λ (f : List ℕ). f ++ drop n w) same ∙ sym parts) ∙ catalog_again on.0 on.1 in
    ok_is_no_err (catalog_at (s.front ++ drop n w)) on.0 read refused
  where
    ok_is_no_err : (r : Result Catalog ℕ) (c : Catalog) → r ≡ Ok c → IsErr r → ⊥
    ok_is_no_err (Ok d) c e h = cc
    ok_is_no_err (Err d) c e h = cc

pub is_first_bad : (bytes : List ℕ) (left : ℕ) → get_or bytes 1 0 < 256 → catalog_at bytes ≡ Err left → IsFirstBad bytes (length bytes - left)
is_first_bad bytes left byte e =
    let s = catalog_stops bytes left e in
    let b = catalog_begun bytes left byte e in
    let same : s.front ≡ b.front = same_front s.front s.back b.front b.back (sym s.parts ∙ b.parts) (s.left_is ∙ sym b.left_is) in
    let place : length bytes - left ≡ length b.front = let all = ap length b.parts in omega (arith, all, b.left_is, length-append b.front b.back) in
    subst (IsFirstBad bytes) (sym place) (record { before = goes_on_before bytes left b; bad = stops_there bytes left s b same })

-- ---- a catalog has few bytes

op_is_short : (op : Op) → is_good_op op ≡ true → length (op_bytes op) ≤ 35
op_is_short op good =
    let short = name_is_short op.name (and_parts (is_name op.name) _ good).0 in
    omega (arith, short.1, length-append op.name (op.subsystem ∷ verb_code op.verb ∷ []))

ops_are_short : (ops : List Op) → list_all is_good_op ops ≡ true → length (flat_map op_bytes ops) ≤ 35 * length ops
ops_are_short [] good = omega arith
ops_are_short (op ∷ ops) good =
    let is = and_parts (is_good_op op) (list_all is_good_op ops) good in
    let first = op_is_short op is.0 in
    let rest = ops_are_short ops is.1 in
    let all : length (flat_map op_bytes (op ∷ ops)) ≡ length (op_bytes op) + length (flat_map op_bytes ops) = ap length (flat_map-cons op_bytes op ops) ∙ length-append (op_bytes op) (flat_map op_bytes ops) in
    omega (arith, first, rest, all)

rows_are_short : (rows : Table) → is_table rows ≡ true → length rows ≤ 256 → length (flat_map row_bytes rows) ≤ 256 * length rows
rows_are_short [] table le = omega arith
rows_are_short (row ∷ rows) table le =
    let is = and_parts (nat_eq (length row) (suc (length rows))) (is_table rows) table in
    let long : length row ≡ suc (length rows) = eqb-true _ _ is.0 in
    let rest = rows_are_short rows is.1 (omega arith) in
    let all : length (flat_map row_bytes (row ∷ rows)) ≡ length (row_bytes row) + length (flat_map row_bytes rows) = ap length (flat_map-cons row_bytes row rows) ∙ length-append (row_bytes row) (flat_map row_bytes rows) in
    let same : length (row_bytes row) ≡ length row = length-map row cell_byte in
    omega (arith, long, rest, all, same)

catalog_is_short : (c : Catalog) → IsCatalog c → length (bytes_of c) < 100000
catalog_is_short c valid =
    let ops = ops_are_short c.ops valid.good in
    let rows = rows_are_short c.conflicts valid.table (omega (arith, valid.of_all, valid.few)) in
    omega (arith, ops, rows, valid.few, valid.of_all, length-append (flat_map op_bytes c.ops) (flat_map row_bytes c.conflicts))

-- the place is within the bytes, and small
pub place_is_small : (bytes : List ℕ) (left : ℕ) → get_or bytes 1 0 < 256 → catalog_at bytes ≡ Err left → (left ≤ length bytes) × (length bytes - left < 2 ^ 32)
place_is_small bytes left byte e =
    let b = catalog_begun bytes left byte e in
    let all : length bytes ≡ length b.front + length b.back = ap length b.parts ∙ length-append b.front b.back in
    let word : length b.front + length b.more ≡ length (bytes_of b.word.0) = sym (length-append b.front b.more) ∙ ap length b.word.2 in
    let short = catalog_is_short b.word.0 b.word.1 in
    (omega (arith, all, b.left_is), omega (arith, all, b.left_is, word, short))
