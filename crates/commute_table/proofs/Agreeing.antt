-- A table of pairs has the mode of each, unless two of them are one pair with two modes.
use Rattle.std.proofs.Common.{◌≡◌, ℕ, min, max, Bool, true, false, ◌||◌, List, [], ◌∷◌, length, refl, sym, ap, ◌∙◌, subst, arith, inl, inr}
use Rattle.std.specs.Prelude.{if◌then◌else◌}
use Rattle.std.specs.List.{list_all, list_any}
use Rattle.std.proofs.lemmas.Bool.{and_parts, and_from, cases_Bool}
use Rattle.std.proofs.lemmas.Bool.Decides.{nat_tests}
use Rattle.process_tree.specs.Order.{Each}
use Rattle.process_tree.specs.declared.conflicts.Mode.{Mode}
use Rattle.process_tree.specs.declared.conflicts.Mode.TheVariants.{Never, Key, Always}
use Rattle.process_tree.specs.Conflicts.{Table, is_table, mode_of, with_mode, no_conflicts, is_same_pair}
use Rattle.process_tree.proofs.Tables.{with_mode-pairs, is_table-with_mode, length-with_mode, is_table-no_conflicts, length-no_conflicts}
use Rattle.commute_table.specs.declared.pairs.Pair.{Pair}
use Rattle.commute_table.specs.Document.{IsPairOf, same_mode, disagree, some_disagree, with_pairs}

-- ---- modes and pairs

pub same_mode-true : (a b : Mode) → same_mode a b ≡ true → a ≡ b
same_mode-true Never Never e = refl
same_mode-true Never Key e = absurd cc
same_mode-true Never Always e = absurd cc
same_mode-true Key Never e = absurd cc
same_mode-true Key Key e = refl
same_mode-true Key Always e = absurd cc
same_mode-true Always Never e = absurd cc
same_mode-true Always Key e = absurd cc
same_mode-true Always Always e = refl

same_mode-itself : (a : Mode) → same_mode a a ≡ true
same_mode-itself Never = refl
same_mode-itself Key = refl
same_mode-itself Always = refl

pair_itself : (a b : ℕ) → is_same_pair a b a b ≡ true
pair_itself a b = grind (arith, nat_tests)

pair_back : (a b c d : ℕ) → is_same_pair a b c d ≡ is_same_pair c d a b
pair_back a b c d = grind (arith, nat_tests)

pair_least : (a b c d : ℕ) → is_same_pair a b c d ≡ true → min a b ≡ min c d
pair_least a b c d same = grind (arith, nat_tests)

pair_greatest : (a b c d : ℕ) → is_same_pair a b c d ≡ true → max a b ≡ max c d
pair_greatest a b c d same = grind (arith, nat_tests)

-- a pair has one mode in a table
one_mode : (t : Table) (a b c d : ℕ) → is_same_pair a b c d ≡ true → mode_of t a b ≡ mode_of t c d
one_mode t a b c d same = rw (pair_least a b c d same, pair_greatest a b c d same) refl

-- ---- tables

abbrev pub AreOf : Table → List Pair → Type 0
AreOf t pairs = Each (IsPairOf (length t)) pairs

still_of : (t : Table) (p : Pair) (ps : List Pair) → AreOf t ps → AreOf (with_mode t p.first p.second p.mode) ps
still_of t p ps are = subst (λ (n : ℕ). Each (IsPairOf n) ps) (sym (length-with_mode t p.first p.second p.mode)) are

abbrev pub stands_in : Table → Pair → Bool
stands_in t p = same_mode (mode_of t p.first p.second) p.mode

-- of one pair, those that don't disagree have one mode
agreed : (p q : Pair) → is_same_pair p.first p.second q.first q.second ≡ true → disagree p q ≡ false → p.mode ≡ q.mode
agreed p q same agree =
    elim (cases_Bool (same_mode p.mode q.mode)) [
      | inl one ↦ same_mode-true p.mode q.mode one
      | inr other ↦ absurd (not_both (sym (rw (same, other) refl) ∙ agree))
    ]
  where
    not_both : true ≡ false → ⊥
    not_both e = cc

neither : (a b : Bool) → (a || b) ≡ false → (a ≡ false) × (b ≡ false)
neither true b h = absurd cc
neither false b h = (refl, h)

-- a mode stays when such pairs are put in as don't disagree with it
stays : (t : Table) (p : Pair) (ps : List Pair) → is_table t ≡ true → AreOf t ps → mode_of t p.first p.second ≡ p.mode → list_any (disagree p) ps ≡ false → mode_of (with_pairs t ps) p.first p.second ≡ p.mode
stays t p [] table are e agree = e
stays t p (q ∷ ps) table are e agree =
    let parts = neither (disagree p q) (list_any (disagree p) ps) agree in
    let next = with_mode t q.first q.second q.mode in
    let put : mode_of next p.first p.second ≡ (if is_same_pair q.first q.second p.first p.second then q.mode else mode_of t p.first p.second) = with_mode-pairs t q.first q.second q.mode p.first p.second table are.0.0 are.0.1 in
    let kept : mode_of next p.first p.second ≡ p.mode =
    elim (cases_Bool (is_same_pair q.first q.second p.first p.second)) [
      | inl same ↦ put ∙ rw same (sym (agreed p q (pair_back p.first p.second q.first q.second ∙ same) parts.0))
      | inr other ↦ put ∙ rw other e
    ] in
    stays next p ps (is_table-with_mode t q.first q.second q.mode table) (still_of t q ps are.1) kept parts.1

-- if no two disagree, the table has the mode of each
pub all_stand : (t : Table) (ps : List Pair) → is_table t ≡ true → AreOf t ps → some_disagree ps ≡ false → list_all (stands_in (with_pairs t ps)) ps ≡ true
all_stand t [] table are agree = refl
all_stand t (p ∷ ps) table are agree =
    let parts = neither (list_any (disagree p) ps) (some_disagree ps) agree in
    let next = with_mode t p.first p.second p.mode in
    let fit : is_table next ≡ true = is_table-with_mode t p.first p.second p.mode table in
    let of_next : AreOf next ps = still_of t p ps are.1 in
    let put : mode_of next p.first p.second ≡ p.mode = with_mode-pairs t p.first p.second p.mode p.first p.second table are.0.0 are.0.1 ∙ rw (pair_itself p.first p.second) refl in
    let kept : mode_of (with_pairs next ps) p.first p.second ≡ p.mode = stays next p ps fit of_next put parts.0 in
    and_from _ _ (rw kept (same_mode-itself p.mode)) (all_stand next ps fit of_next parts.1)

-- pairs whose modes one table has don't disagree
none_with : (t : Table) (p : Pair) (ps : List Pair) → mode_of t p.first p.second ≡ p.mode → list_all (stands_in t) ps ≡ true → list_any (disagree p) ps ≡ false
none_with t p [] e all = refl
none_with t p (q ∷ ps) e all =
    let parts = and_parts (stands_in t q) (list_all (stands_in t) ps) all in
    let later : list_any (disagree p) ps ≡ false = none_with t p ps e parts.1 in
    elim (cases_Bool (is_same_pair p.first p.second q.first q.second)) [
      | inl same ↦
          let one : p.mode ≡ q.mode = sym e ∙ one_mode t p.first p.second q.first q.second same ∙ same_mode-true _ _ parts.0 in
          rw (same, one, same_mode-itself q.mode) later
      | inr other ↦ rw other later
    ]

pub none_disagree : (t : Table) (ps : List Pair) → list_all (stands_in t) ps ≡ true → some_disagree ps ≡ false
none_disagree t [] all = refl
none_disagree t (p ∷ ps) all =
    let parts = and_parts (stands_in t p) (list_all (stands_in t) ps) all in
    rw (none_with t p ps (same_mode-true _ _ parts.0) parts.1) (none_disagree t ps parts.1)

-- ---- the table of a document

pub length-with_pairs : (t : Table) (ps : List Pair) → length (with_pairs t ps) ≡ length t
length-with_pairs t [] = refl
length-with_pairs t (p ∷ ps) = length-with_pairs (with_mode t p.first p.second p.mode) ps ∙ length-with_mode t p.first p.second p.mode

-- the pairs are of their table
pub are_of : (n : ℕ) (t : Table) (ps : List Pair) → Each (IsPairOf n) ps → t ≡ with_pairs (no_conflicts n) ps → AreOf t ps
are_of n t ps are e = subst (λ (m : ℕ). Each (IsPairOf m) ps) (sym (ap length e ∙ length-with_pairs (no_conflicts n) ps ∙ length-no_conflicts n)) are

-- if it hasn't the mode of each, two disagree
pub two_disagree : (n : ℕ) (t : Table) (ps : List Pair) → Each (IsPairOf n) ps → t ≡ with_pairs (no_conflicts n) ps → list_all (stands_in t) ps ≡ false → some_disagree ps ≡ true
two_disagree n t ps are e out =
    let of_empty : AreOf (no_conflicts n) ps = subst (λ (m : ℕ). Each (IsPairOf m) ps) (sym (length-no_conflicts n)) are in
    elim (cases_Bool (some_disagree ps)) [
      | inl two ↦ two
      | inr none ↦ absurd (not_both (sym (all_stand (no_conflicts n) ps (is_table-no_conflicts n) of_empty none) ∙ ap (λ u. list_all (stands_in u) ps) (sym e) ∙ out))
    ]
  where
    not_both : true ≡ false → ⊥
    not_both e = cc
