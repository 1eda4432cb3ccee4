-- The values that are printed.
use Rattle.std.proofs.Common.{◌≡◌, ◌≢◌, ◌+◌, suc, ℕ, ℤ, pos, Bool, true, false, cond, ◌||◌, List, [], ◌∷◌, ◌++◌, map, length, Some, refl, sym, ap, subst, ◌∙◌, arith}
use Rattle.std.specs.Prelude.{unwrap_or, flat_map}
use Rattle.std.specs.List.{AllByRecursion, Contains, list_any, slice_get}
use Rattle.std.specs.List.Sorted.{IsStrictlySortedBy}
use Rattle.std.specs.Map.{keys_of, lookup}
use Rattle.std.specs.Ordering.{nat_cmp, eq_by_cmp}
use Rattle.std.specs.BTreeMap.{is_at}
use Rattle.std.specs.Cmp.{nat_cmp_total, eq_by_cmp_equiv}
use Rattle.std.specs.declared.cmp.Ordering.TheVariants.{Less}
use Rattle.std.proofs.lemmas.Map.Keys.{sorted_head, sorted_tail}
use Rattle.std.proofs.lemmas.Map.Lookups.{exact_unsigned}
use Rattle.std.proofs.lemmas.Map.Views.{Contains-from_any, list_any-from_Contains, tells_apart}
use Rattle.std.proofs.lemmas.Bool.{true≢false}
use Rattle.process_tree.specs.Blocks.{numbers_from}
use Rattle.process_tree.specs.declared.entry.Entry.{Entry}
use Rattle.process_tree.specs.declared.plan.Plan.{Plan}
use Rattle.commute_table.specs.declared.op.Op.{Op}
use Rattle.resource_box.specs.Meaning.{value_at}
use Rattle.resource_box.specs.Table.{kind_of}
use Rattle.subsystem_store.specs.declared.effect.Effect.{Effect}
use Rattle.subsystem_store.specs.Values.{values}
use Rattle.value_replay.specs.Replays.{HaveValues, books, subsystems}
use Rattle.replay_run.specs.Boxes.{boxes_lines, pairs_at}
use Rattle.replay_run.specs.Printed.{pairs_lines, value_line, values_lines}
use Rattle.replay_run.proofs.SortedPairs.{AreSorted, same_pairs}
use Rattle.replay_run.proofs.UsedKeys.{entry_keys, unused_key, values_sorted}

-- a key is among these
abbrev is_among : ℕ → List ℕ → Bool
is_among k keys = list_any (eq_by_cmp nat_cmp k) keys

keys_of_pairs : (vs : List (ℕ × ℤ)) (keys : List ℕ) → keys_of (pairs_at vs keys) ≡ keys
keys_of_pairs vs [] = refl
keys_of_pairs vs (k ∷ keys) = ap (λ ks. k ∷ ks) (keys_of_pairs vs keys)

pairs_sorted : (vs : List (ℕ × ℤ)) (keys : List ℕ) → IsStrictlySortedBy nat_cmp keys → AreSorted (pairs_at vs keys)
pairs_sorted vs [] sorted = tt
pairs_sorted vs (k ∷ keys) sorted =
    (subst (AllByRecursion (λ y. nat_cmp k y ≡ Less)) (sym (keys_of_pairs vs keys)) (sorted_head nat_cmp k keys sorted), pairs_sorted vs keys (sorted_tail nat_cmp k keys sorted))

-- what is read of the values at these keys
read_at : (vs : List (ℕ × ℤ)) (keys : List ℕ) (k : ℕ) → value_at (pairs_at vs keys) k ≡ cond (is_among k keys) (value_at vs k) (pos 0)
read_at vs [] k = refl
read_at vs (x ∷ keys) k = by (eq_by_cmp nat_cmp k x) refl (read_at vs keys k)
  where
    by : (b : Bool) → eq_by_cmp nat_cmp k x ≡ b → value_at (pairs_at vs keys) k ≡ cond (is_among k keys) (value_at vs k) (pos 0)
        → unwrap_or (cond b (Some (value_at vs x)) (lookup (is_at (nat_cmp k)) (pairs_at vs keys))) (pos 0) ≡ cond (b || is_among k keys) (value_at vs k) (pos 0)
    by true is rest = ap (value_at vs) (sym (tells_apart exact_unsigned k x is))
    by false is rest = rest

-- a key that isn't among some is none of them
none_among : (k : ℕ) (keys : List ℕ) → is_among k keys ≡ false → AllByRecursion (λ x. x ≢ k) keys
none_among k [] off = tt
none_among k (x ∷ keys) off = by (eq_by_cmp nat_cmp k x) refl off (none_among k keys)
  where
    by : (b : Bool) → eq_by_cmp nat_cmp k x ≡ b → (b || is_among k keys) ≡ false → (is_among k keys ≡ false → AllByRecursion (λ y. y ≢ k) keys) → AllByRecursion (λ y. y ≢ k) (x ∷ keys)
    by true is off rest = absurd (true≢false off)
    by false is off rest =
        ((λ same. true≢false (sym ((eq_by_cmp_equiv nat_cmp_total).refl k) ∙ (ap (λ y. eq_by_cmp nat_cmp k y) (sym same) ∙ is))), rest off)

-- among more keys there is each that was among fewer
still_among : (k : ℕ) (few more : List ℕ) → ((x : ℕ) → Contains few x → Contains more x) → is_among k few ≡ true → is_among k more ≡ true
still_among k few more have is =
    list_any-from_Contains (eq_by_cmp_equiv nat_cmp_total) k more (have k (Contains-from_any (tells_apart exact_unsigned) k few is))

module _ (ops : List Op) (plans : List Plan) (es : List Entry) (keys : List ℕ) (have : (x : ℕ) → Contains (entry_keys ops plans es) x → Contains keys x) where
  -- the pairs at the keys of all entries read as the book does
  reads_alike : (q : ℕ) (vs : List (ℕ × ℤ)) → ((k : ℕ) → value_at vs k ≡ value_at (values (kind_of q) (books ops plans es q)) k) → (k : ℕ)
      → value_at (pairs_at vs keys) k ≡ value_at (values (kind_of q) (books ops plans es q)) k
  reads_alike q vs alike k = read_at vs keys k ∙ by (is_among k keys) refl
    where
      unused : (b : Bool) → is_among k keys ≡ false → is_among k (entry_keys ops plans es) ≡ b → b ≡ false
      unused true off is = absurd (true≢false (sym (still_among k (entry_keys ops plans es) keys have is) ∙ off))
      unused false off is = refl

      by : (b : Bool) → is_among k keys ≡ b → cond b (value_at vs k) (pos 0) ≡ value_at (values (kind_of q) (books ops plans es q)) k
      by true is = alike k
      by false is =
          sym (unused_key ops plans q k es (none_among k (entry_keys ops plans es) (unused (is_among k (entry_keys ops plans es)) is refl)))

  module _ (sorted : IsStrictlySortedBy nat_cmp keys) where
    -- so their lines are those of the book
    pub box_lines : (q : ℕ) (vs : List (ℕ × ℤ)) → ((k : ℕ) → value_at vs k ≡ value_at (values (kind_of q) (books ops plans es q)) k)
        → pairs_lines q (pairs_at vs keys) ≡ pairs_lines q (values (kind_of q) (books ops plans es q))
    box_lines q vs alike =
        ap (map (value_line q))
        (same_pairs (pairs_at vs keys) (values (kind_of q) (books ops plans es q)) (pairs_sorted vs keys sorted)
        (values_sorted (kind_of q) (books ops plans es q)) (reads_alike q vs alike))

    lines_from : {B : Type 0} (values_of : B → List (ℕ × ℤ)) (q : ℕ) (boxes : List B)
        → ((i : ℕ) (b : B) → slice_get boxes i ≡ Some b → (k : ℕ) → value_at (values_of b) k ≡ value_at (values (kind_of (q + i)) (books ops plans es (q + i))) k)
        → boxes_lines values_of keys q boxes ≡ flat_map (λ p. pairs_lines p (values (kind_of p) (books ops plans es p))) (numbers_from q (length boxes))
    lines_from values_of q [] at = refl
    lines_from values_of q (b ∷ boxes) at =
        let here : q + 0 ≡ q = omega arith in
        let one = box_lines q (values_of b) (subst (λ p. (k : ℕ) → value_at (values_of b) k ≡ value_at (values (kind_of p) (books ops plans es p)) k) here (at 0 b refl)) in
        let rest = lines_from values_of (q + 1) boxes (λ i x is.
        let there : q + suc i ≡ q + 1 + i = omega arith in
        subst (λ p. (k : ℕ) → value_at (values_of x) k ≡ value_at (values (kind_of p) (books ops plans es p)) k) there (at (suc i) x is)) in
        ap (λ ls. ls ++ boxes_lines values_of keys (q + 1) boxes) one ∙ ap (λ ls. pairs_lines q (values (kind_of q) (books ops plans es q)) ++ ls) rest

    -- The lines of boxes that have the values of books are those of the books.
    pub lines_of_boxes : {B : Type 0} (values_of : B → List (ℕ × ℤ)) (boxes : List B) → length boxes ≡ subsystems → HaveValues values_of (books ops plans es) boxes
        → boxes_lines values_of keys 0 boxes ≡ values_lines (books ops plans es)
    lines_of_boxes values_of boxes eight have_values =
        lines_from values_of 0 boxes (λ i b at.
        let same : i ≡ 0 + i = omega arith in
        subst (λ p. (k : ℕ) → value_at (values_of b) k ≡ value_at (values (kind_of p) (books ops plans es p)) k) same (have_values i b at))
        ∙ ap (λ n. flat_map (λ p. pairs_lines p (values (kind_of p) (books ops plans es p))) (numbers_from 0 n)) eight

-- Books that leave the same values have the same lines.
pub lines_alike : (one two : ℕ → List Effect) → ((q k : ℕ) → value_at (values (kind_of q) (one q)) k ≡ value_at (values (kind_of q) (two q)) k) → values_lines one ≡ values_lines two
lines_alike one two alike =
    λ i. flat_map (λ q. map (value_line q) (same_pairs (values (kind_of q) (one q)) (values (kind_of q) (two q)) (values_sorted (kind_of q) (one q)) (values_sorted (kind_of q) (two q)) (alike q) i)) (numbers_from 0 subsystems)
