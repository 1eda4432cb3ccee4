-- Tables of conflicts: what they begin with, and what a set changes.
use Rattle.std.proofs.Common.{◌≡◌, ◌≢◌, ℕ, zero, suc, ◌+◌, ◌-◌, ◌<◌, ◌≤◌, min, max, Bool, true, false, List, [], ◌∷◌, ◌++◌, length, get_or, refl, sym, ap, ◌∙◌, arith, append_assoc, inl, inr}
use Rattle.std.specs.Prelude.{replicate, slice_set, if◌then◌else◌}
use Rattle.std.proofs.lemmas.Bool.{and_parts, eqb-true, eqb-false, ne_eqb, cases_eq, and_from}
use Rattle.std.proofs.lemmas.Bool.Decides.{nat_tests}
use Rattle.std.proofs.lemmas.List.{get_or-set_same, get_or-set_other, length-set, length-replicate, append-nil, get_or_default}
use Rattle.std.proofs.Common.{eqb, eq-eqb}
use Rattle.process_tree.specs.declared.conflicts.Mode.{Mode}
use Rattle.process_tree.specs.declared.conflicts.Mode.TheVariants.{Never, Key, Always}
use Rattle.process_tree.specs.Conflicts.{Access, is_table, no_conflicts, mode_of, covers, do_conflict, with_mode, is_same_pair}

-- the first of the rows that are left
pub first_left : (ops first : ℕ) → first < ops → no_conflicts (ops - first) ≡ replicate (ops - first) Never ∷ no_conflicts (ops - (first + 1))
first_left ops first lt =
    let k : ops - first ≡ suc (ops - (first + 1)) = omega arith in
    rw k refl

-- one more row stands
pub row_stands : (rows : List (List Mode)) (ops first : ℕ) → first < ops → rows ++ no_conflicts (ops - first) ≡ no_conflicts ops → (rows ++ replicate (ops - first) Never ∷ []) ++ no_conflicts (ops - (first + 1)) ≡ no_conflicts ops
row_stands rows ops first lt h = append_assoc rows _ _ ∙ ap (λ (r : List (List Mode)). rows ++ r) (sym (first_left ops first lt)) ∙ h

pub length-no_conflicts : (n : ℕ) → length (no_conflicts n) ≡ n
length-no_conflicts zero = refl
length-no_conflicts (suc n) = ap suc (length-no_conflicts n)

-- without a conflict it is a table
pub is_table-no_conflicts : (n : ℕ) → is_table (no_conflicts n) ≡ true
is_table-no_conflicts zero = refl
is_table-no_conflicts (suc n) = rw (length-replicate (suc n) Never, length-no_conflicts n) (and_from _ _ (eq-eqb (suc n) _ refl) (is_table-no_conflicts n))

-- a row has a cell for its own operation and for each later one
pub row_length : (t : List (List Mode)) (i : ℕ) → is_table t ≡ true → i < length t → length (get_or t i []) ≡ length t - i
row_length [] i h lt = absurd (omega arith)
row_length (row ∷ rows) zero h lt = let e : length row ≡ suc (length rows) = eqb-true _ _ (and_parts _ _ h).0 in omega arith
row_length (row ∷ rows) (suc i) h lt =
    let e : length (get_or rows i []) ≡ length rows - i = row_length rows i (and_parts _ _ h).1 (omega arith) in
    omega arith

-- a row may be put in for one of its length
pub is_table-set : (t : List (List Mode)) (i : ℕ) (row : List Mode) → is_table t ≡ true → length row ≡ length (get_or t i []) → is_table (slice_set t i row) ≡ true
is_table-set [] i row h e = refl
is_table-set (r ∷ rows) zero row h e = rw e h
is_table-set (r ∷ rows) (suc i) row h e =
    let parts = and_parts _ _ h in
    and_from _ _ (rw (length-set rows i row) parts.0) (is_table-set rows i row parts.1 e)

-- a pair that has the least and the distance of another is that one
pair_is : (a b c d : ℕ) → min c d ≡ min a b → max c d - min c d ≡ max a b - min a b → is_same_pair a b c d ≡ true
pair_is a b c d e f = grind (arith, nat_tests)

pair_is_other : (a b c d : ℕ) → min c d ≢ min a b → is_same_pair a b c d ≡ false
pair_is_other a b c d e = grind (arith, nat_tests)

pair_is_further : (a b c d : ℕ) → max c d - min c d ≢ max a b - min a b → is_same_pair a b c d ≡ false
pair_is_further a b c d e = grind (arith, nat_tests)

-- the cell that is set
at_cell : (t : List (List Mode)) (i k : ℕ) (mode : Mode) → i < length t → k < length (get_or t i []) → get_or (get_or (slice_set t i (slice_set (get_or t i []) k mode)) i []) k Never ≡ mode
at_cell t i k mode lt room = rw (get_or-set_same t i (slice_set (get_or t i []) k mode) [] lt) (get_or-set_same (get_or t i []) k mode Never room)

-- a cell beside it
beside_cell : (t : List (List Mode)) (i k m : ℕ) (mode : Mode) → i < length t → m ≢ k → get_or (get_or (slice_set t i (slice_set (get_or t i []) k mode)) i []) m Never ≡ get_or (get_or t i []) m Never
beside_cell t i k m mode lt other = rw (get_or-set_same t i (slice_set (get_or t i []) k mode) [] lt) (get_or-set_other (get_or t i []) k m mode Never other)

-- what a set leaves in the row of its pair
in_row : (t : List (List Mode)) (a b : ℕ) (mode : Mode) (c d : ℕ) → is_table t ≡ true → a < length t → b < length t → min c d ≡ min a b → mode_of (with_mode t a b mode) c d ≡ (if is_same_pair a b c d then mode else mode_of t c d)
in_row t a b mode c d h la lb same =
    let within : min a b < length t = omega arith in
    let long : length (get_or t (min a b) []) ≡ length t - min a b = row_length t (min a b) h within in
    let room : max a b - min a b < length (get_or t (min a b) []) = omega arith in
    elim (cases_eq (max c d - min c d) (max a b - min a b)) [
      | inl near ↦
          let near_here : max c d - min a b ≡ max a b - min a b = omega arith in
          rw (pair_is a b c d same near, same, near_here) (at_cell t (min a b) (max a b - min a b) mode within room)
      | inr far ↦
          let far_here : max c d - min a b ≢ max a b - min a b = omega arith in
          rw (pair_is_further a b c d far, same) (beside_cell t (min a b) (max a b - min a b) (max c d - min a b) mode within far_here)
    ]

-- a set changes its own pair and no other
pub with_mode-pairs : (t : List (List Mode)) (a b : ℕ) (mode : Mode) (c d : ℕ) → is_table t ≡ true → a < length t → b < length t → mode_of (with_mode t a b mode) c d ≡ (if is_same_pair a b c d then mode else mode_of t c d)
with_mode-pairs t a b mode c d h la lb =
    elim (cases_eq (min c d) (min a b)) [
      | inl same ↦ in_row t a b mode c d h la lb same
      | inr other ↦ rw (get_or-set_other t (min a b) (min c d) (slice_set (get_or t (min a b) []) (max a b - min a b) mode) [] other, pair_is_other a b c d other) refl
    ]

-- all rows stand
pub all_stand : (rows : List (List Mode)) (ops first : ℕ) → ops ≤ first → rows ++ no_conflicts (ops - first) ≡ no_conflicts ops → rows ≡ no_conflicts ops
all_stand rows ops first le h =
    let none : ops - first ≡ 0 = omega arith in
    sym (append-nil rows) ∙ rw none at h

-- a pair has a cell in its row
pub cell_within : (rows : List (List Mode)) (a b : ℕ) (row : List Mode) → is_table rows ≡ true → a < length rows → b < length rows → row ≡ get_or rows (min a b) [] → max a b - min a b < length row
cell_within rows a b row h la lb e =
    let long : length (get_or rows (min a b) []) ≡ length rows - min a b = row_length rows (min a b) h (omega arith) in
    rw e (omega arith)

-- the row of a pair, as it was read: it is in the table, and it has the pair's cell
pub read_row : (rows now : List (List Mode)) (a b at cell : ℕ) (row : List Mode) → is_table rows ≡ true → rows ≡ now → a < length now → b < length now → at ≡ min a b → cell ≡ max a b - min a b → row ≡ get_or rows at row
    → (row ≡ get_or now (min a b) []) × (cell < length row)
read_row rows now a b at cell row h same la lb at_is cell_is e =
    let within : at < length rows = rw same (omega arith) in
    let found : row ≡ get_or now (min a b) [] = e ∙ get_or_default rows at row [] within ∙ rw (same, at_is) refl in
    let table : is_table now ≡ true = rw same at h in
    (found, rw cell_is (cell_within now a b row table la lb found))

-- what a cell holds, as it was read
pub read_cell : (now : List (List Mode)) (a b cell : ℕ) (row : List Mode) (mode : Mode) → row ≡ get_or now (min a b) [] → cell < length row → cell ≡ max a b - min a b → mode ≡ get_or row cell mode → mode ≡ mode_of now a b
read_cell now a b cell row mode e within cell_is h = h ∙ get_or_default row cell mode Never within ∙ rw (cell_is, e) refl

-- the table with the changed row
pub changed : (rows now : List (List Mode)) (a b at cell : ℕ) (mode : Mode) (row : List Mode) → rows ≡ now → at ≡ min a b → cell ≡ max a b - min a b → row ≡ get_or now (min a b) [] → slice_set rows at (slice_set row cell mode) ≡ with_mode now a b mode
changed rows now a b at cell mode row same at_is cell_is e = rw (same, at_is, cell_is, e) refl

-- it is a table
pub is_table-with_mode : (now : List (List Mode)) (a b : ℕ) (mode : Mode) → is_table now ≡ true → is_table (with_mode now a b mode) ≡ true
is_table-with_mode now a b mode h = is_table-set now (min a b) (slice_set (get_or now (min a b) []) (max a b - min a b) mode) h (length-set (get_or now (min a b) []) (max a b - min a b) mode)

-- it is of as many operations
pub length-with_mode : (now : List (List Mode)) (a b : ℕ) (mode : Mode) → length (with_mode now a b mode) ≡ length now
length-with_mode now a b mode = length-set now (min a b) (slice_set (get_or now (min a b) []) (max a b - min a b) mode)

-- a pair has one mode
pub mode_of-symmetric : (t : List (List Mode)) (a b : ℕ) → mode_of t a b ≡ mode_of t b a
mode_of-symmetric t a b =
    let least : min a b ≡ min b a = omega arith in
    let greatest : max a b ≡ max b a = omega arith in
    rw (least, greatest) refl

eqb-symmetric : (k m : ℕ) (t : Bool) → eqb k m ≡ t → eqb m k ≡ t
eqb-symmetric k m true is = eq-eqb m k (sym (eqb-true k m is))
eqb-symmetric k m false is = ne_eqb m k (λ same. eqb-false k m is (sym same))

-- keys are compared in either order
pub covers-symmetric : (mode : Mode) (k m : ℕ) → covers mode k m ≡ covers mode m k
covers-symmetric Never k m = refl
covers-symmetric Key k m = sym (eqb-symmetric k m (eqb k m) refl)
covers-symmetric Always k m = refl

-- a conflict holds both ways
pub do_conflict-symmetric : (t : List (List Mode)) (a b : Access) → do_conflict t a b ≡ do_conflict t b a
do_conflict-symmetric t a b = ap (λ mode. covers mode a.key b.key) (mode_of-symmetric t a.op b.op) ∙ covers-symmetric (mode_of t b.op a.op) a.key b.key

none_in_row : (n k : ℕ) → get_or (replicate n Never) k Never ≡ Never
none_in_row zero k = refl
none_in_row (suc n) zero = refl
none_in_row (suc n) (suc k) = none_in_row n k

none_at : (n i k : ℕ) → get_or (get_or (no_conflicts n) i []) k Never ≡ Never
none_at zero i k = refl
none_at (suc n) zero k = none_in_row (suc n) k
none_at (suc n) (suc i) k = none_at n i k

-- in an empty table all modes are never
pub mode_of-no_conflicts : (n a b : ℕ) → mode_of (no_conflicts n) a b ≡ Never
mode_of-no_conflicts n a b = none_at n (min a b) (max a b - min a b)

-- and it has no conflict
pub do_conflict-no_conflicts : (n : ℕ) (a b : Access) → do_conflict (no_conflicts n) a b ≡ false
do_conflict-no_conflicts n a b = ap (λ mode. covers mode a.key b.key) (mode_of-no_conflicts n a.op b.op)
