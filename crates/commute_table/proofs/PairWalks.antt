-- Going over the conflicts of a document.
use Rattle.std.proofs.Common.{◌≡◌, ℕ, zero, suc, ◌+◌, ◌<◌, ◌≤◌, true, false, Bool, List, [], ◌∷◌, ◌++◌, length, get_or, drop, None, Ok, sym, ◌∙◌, refl, arith}
use Rattle.std.specs.List.{list_all}
use Rattle.std.proofs.lemmas.List.{drop_more, drop_all, nil_from_length}
use Rattle.toml.specs.View.{view, items_view}
use Rattle.toml.specs.declared.value.Value.{Value}
use Rattle.process_tree.specs.Order.{Each}
use Rattle.process_tree.specs.Conflicts.{Table, with_mode}
use Rattle.commute_table.specs.declared.op.Op.{Op}
use Rattle.commute_table.specs.declared.pairs.Pair.{Pair}
use Rattle.commute_table.specs.declared.errors.ScenarioError.{ScenarioError}
use Rattle.commute_table.specs.Document.{Said, Fails, mode_behind, pair_of, pair_in, pair_said, pairs_said, with_pairs}
use Rattle.commute_table.proofs.Walks.{fails_on}

-- ---- what is no pair

-- fewer than two items
pub no_pair : (version : ℕ) (vs : List Value) → length vs < 2 → None ≡ pair_of version (items_view vs)
no_pair version [] lt = refl
no_pair version (a ∷ []) lt = refl
no_pair version (a ∷ b ∷ vs) lt = absurd (omega arith)

-- more than one item behind two names
pub many_behind : (version : ℕ) (vs : List Value) → 2 ≤ length vs → None ≡ mode_behind version (items_view vs)
many_behind version [] le = absurd (omega arith)
many_behind version (a ∷ []) le = absurd (omega arith)
many_behind version (a ∷ b ∷ vs) le = refl

-- ---- the items

pub pairs_next : (version : ℕ) (ops : List Op) (done : List Pair) (pair : Pair) (rest after : List Value) (first : Value) (total : Said (List Pair)) → rest ≡ first ∷ after → pair_said ops (pair_in version (view first)) ≡ Ok pair
    → pairs_said version ops done (items_view rest) ≡ total → pairs_said version ops (done ++ pair ∷ []) (items_view after) ≡ total
unfolding pairs_said
pairs_next version ops done pair rest after first total is e h =
    let one : pairs_said version ops done (items_view rest) ≡ pairs_said version ops (done ++ pair ∷ []) (items_view after) = rw (is, e) refl in
    sym one ∙ h

pub pairs_fail : (error : ScenarioError) (version : ℕ) (ops : List Op) (done : List Pair) (rest after : List Value) (first : Value) (total : Said (List Pair)) → rest ≡ first ∷ after → Fails error (pair_said ops (pair_in version (view first)))
    → pairs_said version ops done (items_view rest) ≡ total → Fails error total
unfolding pairs_said
pairs_fail error version ops done rest after first total is e h = rw (← h, is) (fails_on error (pair_said ops (pair_in version (view first))) (λ pair. pairs_said version ops (done ++ pair ∷ []) (items_view after)) e)

pub pairs_stop : (version : ℕ) (ops : List Op) (done : List Pair) (rest : List Value) (total : Said (List Pair)) → length rest < 1 → pairs_said version ops done (items_view rest) ≡ total → total ≡ Ok done
unfolding pairs_said
pairs_stop version ops done rest total none h =
    let is : rest ≡ [] = nil_from_length rest (omega arith) in
    sym h ∙ rw is refl

-- ---- their pairs

-- what holds of each holds of one
pub Each-at : {A : Type 0} (P : A → Type 0) (xs : List A) (i : ℕ) (d : A) → i < length xs → Each P xs → P (get_or xs i d)
Each-at P [] i d lt all = absurd (omega arith)
Each-at P (x ∷ xs) zero d lt all = all.0
Each-at P (x ∷ xs) (suc i) d lt all = Each-at P xs i d (omega arith) all.1

-- the table with one pair more
pub table_next : (pairs : List Pair) (i : ℕ) (d : Pair) (t total : Table) → i < length pairs → with_pairs t (drop i pairs) ≡ total
    → with_pairs (with_mode t (get_or pairs i d).first (get_or pairs i d).second (get_or pairs i d).mode) (drop (i + 1) pairs) ≡ total
table_next pairs i d t total lt h = sym (rw (drop_more pairs i d lt) refl) ∙ h

pub table_done : (pairs : List Pair) (i : ℕ) (t total : Table) → length pairs ≤ i → with_pairs t (drop i pairs) ≡ total → t ≡ total
table_done pairs i t total le h = sym (rw (drop_all i pairs le) refl) ∙ h

-- whether all pass a test
pub all_here : (p : Pair → Bool) (xs : List Pair) (i : ℕ) (d : Pair) (all : Bool) → i < length xs → p (get_or xs i d) ≡ false → list_all p (drop i xs) ≡ all → false ≡ all
all_here p xs i d all lt e h = (rw (drop_more xs i d lt, e) refl) ∙ h

pub all_later : (p : Pair → Bool) (xs : List Pair) (i : ℕ) (d : Pair) (all : Bool) → i < length xs → p (get_or xs i d) ≡ true → list_all p (drop i xs) ≡ all → list_all p (drop (i + 1) xs) ≡ all
all_later p xs i d all lt e h = (sym (rw (drop_more xs i d lt, e) refl)) ∙ h

pub all_passed : (p : Pair → Bool) (xs : List Pair) (i : ℕ) (all : Bool) → length xs ≤ i → list_all p (drop i xs) ≡ all → true ≡ all
all_passed p xs i all le h = (rw (drop_all i xs le) refl) ∙ h
