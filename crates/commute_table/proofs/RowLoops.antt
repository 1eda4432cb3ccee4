-- Reading the pairs of a table, cell by cell and row by row.
use Rattle.std.proofs.Common.{◌≡◌, ℕ, zero, suc, ◌+◌, ◌-◌, ◌<◌, ◌≤◌, min, max, true, List, [], ◌∷◌, ◌++◌, length, get_or, Result, Ok, Err, refl, sym, ap, ◌∙◌, arith, append_assoc}
use Rattle.std.specs.Prelude.{replicate, slice_set}
use Rattle.std.proofs.Math.Seq.{set-append_seam}
use Rattle.std.proofs.lemmas.List.{get_or-set_same, length-append, length-replicate, append-nil, get_or-append_right}
use Rattle.commute_table.specs.declared.reading.Fault.{Fault}
use Rattle.commute_table.specs.declared.reading.Fault.TheVariants.{Memory, Left}
use Rattle.process_tree.specs.declared.conflicts.Mode.{Mode}
use Rattle.process_tree.specs.declared.conflicts.Mode.TheVariants.{Never}
use Rattle.process_tree.specs.Conflicts.{is_table, no_conflicts, with_mode}
use Rattle.process_tree.proofs.Tables.{first_left, length-no_conflicts, is_table-set}
use Rattle.commute_table.specs.Reading.{◌>>=◌, Fails, byte_at, mode_with, is_cell, cells_at, rows_at}

-- the value of a step that did not fail
pub bind_ok : {A B : Type 0} (r : Result A ℕ) (f : A → Result B ℕ) (y : B) → (r >>= f) ≡ Ok y → (x : A) × (r ≡ Ok x) × (f x ≡ Ok y)
bind_ok (Ok x) f y e = (x, refl, e)
bind_ok (Err d) f y e = absurd cc

abbrev done_with : {A : Type 0} → A → Result A ℕ
done_with x = Ok x

pub ok_is : {A : Type 0} (x y : A) → done_with x ≡ done_with y → x ≡ y
ok_is x y e = cc

-- ---- cells

pub cells_go_on : (version n left : ℕ) (done : List Mode) (b : ℕ) (bytes after : List ℕ) (total : Result (List Mode × List ℕ) ℕ) → n ≡ suc left → byte_at (is_cell version) bytes ≡ Ok (b, after)
    → cells_at version n done bytes ≡ total → cells_at version left (done ++ mode_with b ∷ []) after ≡ total
unfolding cells_at
cells_go_on version n left done b bytes after total k e h =
    let one : cells_at version n done bytes ≡ cells_at version left (done ++ mode_with b ∷ []) after = rw (k, e) refl in
    sym one ∙ h

pub cells_end : (e : Fault) (version n left : ℕ) (done : List Mode) (bytes : List ℕ) (total : Result (List Mode × List ℕ) ℕ) → n ≡ suc left → Fails e (byte_at (is_cell version) bytes)
    → cells_at version n done bytes ≡ total → Fails e total
unfolding cells_at
cells_end Memory version n left done bytes total k e h = tt
cells_end (Left m) version n left done bytes total k e h =
    let one : cells_at version n done bytes ≡ Err m = rw (k, e) refl in
    sym h ∙ one

pub cells_done : (version n : ℕ) (done : List Mode) (bytes : List ℕ) (total : Result (List Mode × List ℕ) ℕ) → n ≡ 0 → cells_at version n done bytes ≡ total → total ≡ Ok (done, bytes)
unfolding cells_at
cells_done version n done bytes total k h = sym h ∙ rw k refl

-- how many cells there are
pub cells_length : (version n : ℕ) (done : List Mode) (bytes : List ℕ) (x : List Mode × List ℕ) → cells_at version n done bytes ≡ Ok x → length x.0 ≡ length done + n
unfolding cells_at
cells_length version zero done bytes x e =
    let made : (done, bytes) ≡ x = ok_is (done, bytes) x e in
    rw (← made) (omega arith)
cells_length version (suc n) done bytes x e =
    let b = bind_ok (byte_at (is_cell version) bytes) (λ b. cells_at version n (done ++ mode_with b.0 ∷ []) b.1) x e in
    let rest : length x.0 ≡ length (done ++ mode_with b.0.0 ∷ []) + n = cells_length version n (done ++ mode_with b.0.0 ∷ []) b.0.1 x b.2 in
    omega (arith, rest, length-append done (mode_with b.0.0 ∷ []))

set_twice : (t : List (List Mode)) (i : ℕ) (a b : List Mode) → slice_set (slice_set t i a) i b ≡ slice_set t i b
set_twice [] i a b = refl
set_twice (r ∷ t) zero a b = refl
set_twice (r ∷ t) (suc i) a b = ap (λ (x : List (List Mode)). r ∷ x) (set_twice t i a b)

-- a row whose next cell is read
pub cell_read : (t current next : List (List Mode)) (first later count : ℕ) (mode : Mode) (done : List Mode) → first < length t → first ≤ later → later < count → length done ≡ later - first
    → current ≡ slice_set t first (done ++ replicate (count - later) Never) → next ≡ with_mode current first later mode
    → next ≡ slice_set t first ((done ++ mode ∷ []) ++ replicate (count - (later + 1)) Never)
cell_read t current next first later count mode done within le lt place e set =
    let left : count - later ≡ suc (count - (later + 1)) = omega arith in
    let least : min first later ≡ first = omega arith in
    let greatest : max first later - first ≡ length done = omega arith in
    let row = done ++ Never ∷ replicate (count - (later + 1)) Never in
    let found : get_or (slice_set t first row) first [] ≡ row = get_or-set_same t first row [] within in
    set ∙ rw (e, left, least, greatest, found, set_twice t first row (slice_set row (length done) mode), set-append_seam done Never (replicate (count - (later + 1)) Never) mode, append_assoc done (mode ∷ []) (replicate (count - (later + 1)) Never)) refl

-- a whole row is read
pub row_read : (t current : List (List Mode)) (first later count : ℕ) (done : List Mode) → count ≤ later → current ≡ slice_set t first (done ++ replicate (count - later) Never) → current ≡ slice_set t first done
row_read t current first later count done le e =
    let none : count - later ≡ 0 = omega arith in
    e ∙ rw (none, append-nil done) refl

-- ---- rows

pub rows_go_on : (version count i : ℕ) (done : List (List Mode)) (cells : List Mode) (bytes after : List ℕ) (total : Result (List (List Mode) × List ℕ) ℕ) → i < count → cells_at version (count - i) [] bytes ≡ Ok (cells, after)
    → rows_at version (count - i) done bytes ≡ total → rows_at version (count - (i + 1)) (done ++ cells ∷ []) after ≡ total
unfolding rows_at
rows_go_on version count i done cells bytes after total lt e h =
    let k : count - i ≡ suc (count - (i + 1)) = omega arith in
    let one : rows_at version (count - i) done bytes ≡ rows_at version (count - (i + 1)) (done ++ cells ∷ []) after = rw (k, rw k at e) refl in
    sym one ∙ h

pub rows_end : (e : Fault) (version count i : ℕ) (done : List (List Mode)) (bytes : List ℕ) (total : Result (List (List Mode) × List ℕ) ℕ) → i < count → Fails e (cells_at version (count - i) [] bytes)
    → rows_at version (count - i) done bytes ≡ total → Fails e total
unfolding rows_at
rows_end Memory version count i done bytes total lt e h = tt
rows_end (Left m) version count i done bytes total lt e h =
    let k : count - i ≡ suc (count - (i + 1)) = omega arith in
    let one : rows_at version (count - i) done bytes ≡ Err m = rw (k, rw k at e) refl in
    sym h ∙ one

pub rows_done : (version count i : ℕ) (done : List (List Mode)) (bytes : List ℕ) (total : Result (List (List Mode) × List ℕ) ℕ) → count ≤ i → rows_at version (count - i) done bytes ≡ total → total ≡ Ok (done, bytes)
unfolding rows_at
rows_done version count i done bytes total le h =
    let k : count - i ≡ 0 = omega arith in
    sym h ∙ rw k refl

-- the next row has no conflict yet
pub row_is_free : (done : List (List Mode)) (count first : ℕ) → length done ≡ first → first < count → get_or (done ++ no_conflicts (count - first)) first [] ≡ replicate (count - first) Never
row_is_free done count first place lt =
    let back : first - first ≡ 0 = omega arith in
    rw (get_or-append_right done (no_conflicts (count - first)) first first [] place (omega arith), first_left count first lt, back) refl

-- the next row is put in
pub row_put : (done : List (List Mode)) (count first : ℕ) (cells : List Mode) → length done ≡ first → first < count
    → slice_set (done ++ no_conflicts (count - first)) first cells ≡ (done ++ cells ∷ []) ++ no_conflicts (count - (first + 1))
row_put done count first cells place lt =
    rw (first_left count first lt, ← place, set-append_seam done _ _ cells, append_assoc done (cells ∷ []) _) refl

-- how many rows there are
pub rows_count : (done t : List (List Mode)) (count first : ℕ) → length done ≡ first → first ≤ count → t ≡ done ++ no_conflicts (count - first) → length t ≡ count
rows_count done t count first place le e =
    rw e (omega (arith, length-append done (no_conflicts (count - first)), length-no_conflicts (count - first)))

-- with the next row it is still a table
pub row_is_fit : (version : ℕ) (done t : List (List Mode)) (count first : ℕ) (cells : List Mode) (bytes after : List ℕ) → length done ≡ first → first < count → t ≡ done ++ no_conflicts (count - first) → is_table t ≡ true
    → cells_at version (count - first) [] bytes ≡ Ok (cells, after) → is_table (slice_set t first cells) ≡ true
row_is_fit version done t count first cells bytes after place lt e h read =
    let long = cells_length version (count - first) [] bytes (cells, after) read in
    let many : length cells ≡ count - first = omega (arith, long) in
    let free : get_or t first [] ≡ replicate (count - first) Never = rw e (row_is_free done count first place lt) in
    is_table-set t first cells h (many ∙ sym (length-replicate (count - first) Never) ∙ ap length (sym free))

-- all rows are read
pub rows_read : (done t : List (List Mode)) (count first : ℕ) → count ≤ first → t ≡ done ++ no_conflicts (count - first) → t ≡ done
rows_read done t count first le e =
    let none : count - first ≡ 0 = omega arith in
    e ∙ rw (none, append-nil done) refl
