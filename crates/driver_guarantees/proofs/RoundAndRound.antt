-- Numbers round and round: of those that pass, the first behind one that was served is the one asked for, or is nearer to it.
use Rattle.std.proofs.Common.{◌≡◌, ◌⊎◌, inl, inr, ⊎_elim, ℕ, ◌+◌, ◌-◌, ◌≤◌, ◌<◌, Bool, true, false, cond, eqb, ltb, leb, List, [], ◌∷◌, ◌++◌, filter, find, Some, None, sym, refl, ap, ◌∙◌, arith}
use Rattle.std.specs.Bool.{IsTrue}
use Rattle.std.specs.List.{list_all}
use Rattle.std.proofs.lemmas.Bool.{and_from, eqb-true, false≢true, le-leb, ltb-true, lt-ltb, or_cases, or_left, or_right, cases_lt}
use Rattle.std.proofs.lemmas.Option.{none-some, same_Some}
use Rattle.schedule_model.specs.Histories.{is_in}
use Rattle.schedule_model.proofs.Active.{is_in-filter}
use Rattle.schedule_model.proofs.Appends.{is_in-append}
use Rattle.schedule_model.proofs.Members.{Among, all-among, among-filter, among-is_in, is_in-among}
use Rattle.schedule_model.proofs.Rising.{Rising}
use Rattle.schedule_model.proofs.Walks.{any-is_in}
use Rattle.machine_model.proofs.Stuck.{none_passes}

-- how many numbers stand between the process that was served and process i, round and round
abbrev pub between : ℕ → ℕ → ℕ → ℕ
between count served i = cond (ltb served i) (i - served - 1) (count - served + (i - 1))

not_less : (a b : ℕ) → b ≤ a → ltb a b ≡ false
not_less a b le = by_test (ltb a b) refl
  where
    by_test : (t : Bool) → ltb a b ≡ t → ltb a b ≡ false
    by_test false is = is
    by_test true is = let less = ltb-true a b is in absurd (omega arith)

-- what is found is there
found-among : (q : ℕ → Bool) (x : ℕ) (xs : List ℕ) → find q xs ≡ Some x → Among x xs
found-among q x [] is = absurd (none-some x is)
found-among q x (y ∷ ys) is = by_test (q y) is (found-among q x ys)
  where
    by_test : (t : Bool) → cond t (Some y) (find q ys) ≡ Some x → (find q ys ≡ Some x → Among x ys) → Among x (y ∷ ys)
    by_test true here rest = inl (same_Some y x here)
    by_test false later rest = inr (rest later)

-- Of rising numbers that pass a test, the first that passes another is the least.
module _ (p q : ℕ → Bool) where
  first_step : (x k i : ℕ) (xs : List ℕ) (a b : Bool) → q x ≡ a → p x ≡ b → IsTrue (list_all (λ y. ltb x y) xs) → p i ≡ true → q i ≡ true → (is_in i xs ≡ true → find p (filter q xs) ≡ Some k → k ≤ i)
      → (eqb i x ≡ true) ⊎ (is_in i xs ≡ true) → find p (cond a (x ∷ filter q xs) (filter q xs)) ≡ Some k → k ≤ i
  first_step x k i xs true true is passes above pi qi rest (inl same) found = let a = eqb-true i x same in let b = same_Some x k (sym (ap (λ t. cond t (Some x) (find p (filter q xs))) passes) ∙ found) in omega arith
  first_step x k i xs true true is passes above pi qi rest (inr later) found =
      let less = ltb-true x i (all-among (λ y. ltb x y) xs above i (among-is_in i xs later)) in
      let b = same_Some x k (sym (ap (λ t. cond t (Some x) (find p (filter q xs))) passes) ∙ found) in
      omega arith
  first_step x k i xs true false is passes above pi qi rest (inl same) found = absurd (false≢true (sym passes ∙ (ap p (sym (eqb-true i x same)) ∙ pi)))
  first_step x k i xs true false is passes above pi qi rest (inr later) found = rest later (sym (ap (λ t. cond t (Some x) (find p (filter q xs))) passes) ∙ found)
  first_step x k i xs false b is passes above pi qi rest (inl same) found = absurd (false≢true (sym is ∙ (ap q (sym (eqb-true i x same)) ∙ qi)))
  first_step x k i xs false b is passes above pi qi rest (inr later) found = rest later found

  first_is_least : (k i : ℕ) (xs : List ℕ) → Rising xs → find p (filter q xs) ≡ Some k → p i ≡ true → q i ≡ true → is_in i xs ≡ true → k ≤ i
  first_is_least k i [] rising found pi qi listed = absurd (false≢true listed)
  first_is_least k i (x ∷ xs) rising found pi qi listed =
      first_step x k i xs (q x) (p x) refl refl rising.0 pi qi (λ later found'. first_is_least k i xs rising.1 found' pi qi later) (or_cases (eqb i x) (is_in i xs) listed) found

  -- what is found passes, and is listed
  found_there : (k : ℕ) (xs : List ℕ) → find p (filter q xs) ≡ Some k → (q k ≡ true) × (is_in k xs ≡ true)
  found_there k xs found =
      let there = among-filter q k xs (found-among p k (filter q xs) found) in
      (there.1, is_in-among k xs there.0)

  -- where nothing is found, nothing passes both
  none_there : (i : ℕ) (xs : List ℕ) → find p (filter q xs) ≡ None → p i ≡ true → is_in i xs ≡ true → q i ≡ true → ⊥
  none_there i xs none pi listed qi =
      false≢true (sym (none_passes p (filter q xs) none) ∙ any-is_in p i (filter q xs) (is_in-filter q i xs ∙ and_from (is_in i xs) (q i) listed qi) pi)

-- found in two lists
found_in_two : (p : ℕ → Bool) (xs ys : List ℕ) (k : ℕ) → find p (xs ++ ys) ≡ Some k → (find p xs ≡ Some k) ⊎ ((find p xs ≡ None) × (find p ys ≡ Some k))
found_in_two p [] ys k found = inr (refl, found)
found_in_two p (x ∷ xs) ys k found = by_test (p x) refl (found_in_two p xs ys k)
  where
    by_test : (t : Bool) → p x ≡ t → (find p (xs ++ ys) ≡ Some k → (find p xs ≡ Some k) ⊎ ((find p xs ≡ None) × (find p ys ≡ Some k)))
        → (find p (x ∷ xs) ≡ Some k) ⊎ ((find p (x ∷ xs) ≡ None) × (find p ys ≡ Some k))
    by_test true is rest = inl (ap (λ t. cond t (Some x) (find p xs)) is ∙ (sym (ap (λ t. cond t (Some x) (find p (xs ++ ys))) is) ∙ found))
    by_test false is rest =
        let at = rest (sym (ap (λ t. cond t (Some x) (find p (xs ++ ys))) is) ∙ found) in
        ⊎_elim (λ a. inl (ap (λ t. cond t (Some x) (find p xs)) is ∙ a)) (λ b. inr (ap (λ t. cond t (Some x) (find p xs)) is ∙ b.0, b.1)) at

module _ (p : ℕ → Bool) (xs : List ℕ) (count : ℕ) (rising : Rising xs) (numbered : (k : ℕ) → is_in k xs ≡ true → (1 ≤ k) × (k ≤ count)) (served i : ℕ) (pi : p i ≡ true) (listed : is_in i xs ≡ true) where
  -- it is process i, or it is between
  abbrev Nearer : ℕ → Type 0
  Nearer k = (k ≡ i) ⊎ (between count k i < between count served i)

  same_or_less : (k : ℕ) → k ≤ i → (k ≡ i) ⊎ (k < i)
  same_or_less k le = by_order (cases_lt k i)
    where
      by_order : (k < i) ⊎ (i ≤ k) → (k ≡ i) ⊎ (k < i)
      by_order (inl less) = inr less
      by_order (inr more) = inl (omega arith)

  above_both : (k : ℕ) → served < k → served < i → k < i → between count k i < between count served i
  above_both k a b c =
      let x = ap (λ t. cond {A = ℕ} t (i - k - 1) (count - k + (i - 1))) (lt-ltb k i c) in
      let y = ap (λ t. cond {A = ℕ} t (i - served - 1) (count - served + (i - 1))) (lt-ltb served i b) in
      omega arith

  round_above : (k : ℕ) → served < k → k ≤ count → i ≤ served → between count k i < between count served i
  round_above k a b c =
      let x = ap (λ t. cond {A = ℕ} t (i - k - 1) (count - k + (i - 1))) (not_less k i (omega arith)) in
      let y = ap (λ t. cond {A = ℕ} t (i - served - 1) (count - served + (i - 1))) (not_less served i c) in
      omega arith

  round_below : (k : ℕ) → 1 ≤ k → k < i → i ≤ served → between count k i < between count served i
  round_below k a b c =
      let x = ap (λ t. cond {A = ℕ} t (i - k - 1) (count - k + (i - 1))) (lt-ltb k i b) in
      let y = ap (λ t. cond {A = ℕ} t (i - served - 1) (count - served + (i - 1))) (not_less served i c) in
      omega arith

  first_part : (k : ℕ) → find p (filter (λ j. ltb served j) xs) ≡ Some k → Nearer k
  first_part k found = by_order (cases_lt served i)
    where
      there : (ltb served k ≡ true) × (is_in k xs ≡ true)
      there = found_there p (λ j. ltb served j) k xs found

      by_order : (served < i) ⊎ (i ≤ served) → Nearer k
      by_order (inl above) =
          ⊎_elim (λ same. inl same) (λ less. inr (above_both k (ltb-true served k there.0) above less))
          (same_or_less k (first_is_least p (λ j. ltb served j) k i xs rising found pi (lt-ltb served i above) listed))
      by_order (inr below) = inr (round_above k (ltb-true served k there.0) (numbered k there.1).1 below)

  second_part : (k : ℕ) → find p (filter (λ j. ltb served j) xs) ≡ None → find p (filter (λ j. leb j served) xs) ≡ Some k → Nearer k
  second_part k none found = by_order (cases_lt served i)
    where
      there : (leb k served ≡ true) × (is_in k xs ≡ true)
      there = found_there p (λ j. leb j served) k xs found

      by_order : (served < i) ⊎ (i ≤ served) → Nearer k
      by_order (inl above) = absurd (none_there p (λ j. ltb served j) i xs none pi listed (lt-ltb served i above))
      by_order (inr below) =
          ⊎_elim (λ same. inl same) (λ less. inr (round_below k (numbered k there.1).0 less below))
          (same_or_less k (first_is_least p (λ j. leb j served) k i xs rising found pi (le-leb i served below) listed))

  -- the first in rotation is process i, or comes before it
  pub nearer : (k : ℕ) → find p (filter (λ j. ltb served j) xs ++ filter (λ j. leb j served) xs) ≡ Some k → Nearer k
  nearer k found = ⊎_elim (first_part k) (λ b. second_part k b.0 b.1) (found_in_two p (filter (λ j. ltb served j) xs) (filter (λ j. leb j served) xs) k found)

  -- and somebody is found
  pub somebody : find p (filter (λ j. ltb served j) xs ++ filter (λ j. leb j served) xs) ≡ None → ⊥
  somebody none = false≢true (sym (none_passes p (filter (λ j. ltb served j) xs ++ filter (λ j. leb j served) xs) none) ∙ any-is_in p i (filter (λ j. ltb served j) xs ++ filter (λ j. leb j served) xs) (by_order (cases_lt served i)) pi)
    where
      by_order : (served < i) ⊎ (i ≤ served) → is_in i (filter (λ j. ltb served j) xs ++ filter (λ j. leb j served) xs) ≡ true
      by_order (inl above) =
          is_in-append i (filter (λ j. ltb served j) xs) (filter (λ j. leb j served) xs)
          ∙ or_left (is_in i (filter (λ j. ltb served j) xs)) (is_in i (filter (λ j. leb j served) xs)) (is_in-filter (λ j. ltb served j) i xs ∙ and_from (is_in i xs) (ltb served i) listed (lt-ltb served i above))
      by_order (inr below) =
          is_in-append i (filter (λ j. ltb served j) xs) (filter (λ j. leb j served) xs)
          ∙ or_right (is_in i (filter (λ j. ltb served j) xs)) (is_in i (filter (λ j. leb j served) xs)) (is_in-filter (λ j. leb j served) i xs ∙ and_from (is_in i xs) (leb i served) listed (le-leb i served below))
