-- Writing the pairs of a table, cell by cell.
use Rattle.std.proofs.Common.{◌≡◌, ℕ, ◌+◌, ◌-◌, ◌<◌, ◌≤◌, true, List, [], ◌∷◌, ◌++◌, length, get_or, take, min, max, refl, arith, append_assoc}
use Rattle.std.proofs.lemmas.List.{take_more, take_all, map-append}
use Rattle.process_tree.specs.declared.conflicts.Mode.{Mode}
use Rattle.process_tree.specs.declared.conflicts.Mode.TheVariants.{Never}
use Rattle.process_tree.specs.Conflicts.{is_table, mode_of}
use Rattle.process_tree.proofs.Tables.{row_length}
use Rattle.commute_table.specs.Bytes.{cell_byte, row_bytes}

-- one cell more
row_more : (row : List Mode) (k : ℕ) → k < length row → row_bytes (take (k + 1) row) ≡ row_bytes (take k row) ++ cell_byte (get_or row k Never) ∷ []
row_more row k lt = rw (take_more row k Never lt) (map-append cell_byte (take k row) (get_or row k Never ∷ []))

-- what the next pair adds
pub pair_written : (t : List (List Mode)) (first later : ℕ) (out old : List ℕ) → is_table t ≡ true → first ≤ later → later < length t
    → out ≡ old ++ row_bytes (take (later - first) (get_or t first []))
    → out ++ cell_byte (mode_of t first later) ∷ [] ≡ old ++ row_bytes (take (later + 1 - first) (get_or t first []))
pair_written t first later out old h le lt e =
    let long : length (get_or t first []) ≡ length t - first = row_length t first h (omega arith) in
    let place : later + 1 - first ≡ (later - first) + 1 = omega arith in
    let cell : mode_of t first later ≡ get_or (get_or t first []) (later - first) Never =
    let least : min first later ≡ first = omega arith in
    let greatest : max first later ≡ later = omega arith in
    rw (least, greatest) refl in
    rw (place, cell, row_more (get_or t first []) (later - first) (omega arith), e) (append_assoc old _ _)

-- all pairs of an operation
pub row_written : (t : List (List Mode)) (first later : ℕ) (out old : List ℕ) → is_table t ≡ true → first < length t → length t ≤ later
    → out ≡ old ++ row_bytes (take (later - first) (get_or t first []))
    → out ≡ old ++ row_bytes (get_or t first [])
row_written t first later out old h lt le e =
    let long : length (get_or t first []) ≡ length t - first = row_length t first h lt in
    rw (← take_all (later - first) (get_or t first []) (omega arith)) e
