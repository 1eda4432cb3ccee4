-- Columns: what a change of one word of a row does to its columns.
use Rattle.std.proofs.Common.{◌≡◌, ◌≢◌, ◌<◌, ◌/◌, ◌%◌, ◌*◌, ◌^◌, ◌≤◌, ◌+◌, ◌⊎◌, ◌==◌, ℕ, zero, suc, max, Bool, true, false, not, ◌||◌, ◌&&◌, List, length, slice_index_or, slice_set, nat_eq, bit_and, bit_or, w64, refl, ap, sym, ◌∙◌, arith, eqb-true, eq-eqb, ne_eqb, get_or-set_same, get_or-set_other, inl, inr}
use Rattle.std.proofs.lemmas.Bool.{cases_lt, eqb-false}
use Rattle.std.proofs.lemmas.List.{get_or_past}
use Rattle.std.specs.Int.{bit_at, bit_not}
use Rattle.std.proofs.lemmas.Nat.Bits.{bit_at_or, bit_at-lt, bit_at_set_same, bit_at_set_other, bit_at_clear_same, bit_at_clear_other, bit_at-zero}
use Rattle.bit_rows.specs.Rows.{columns_from, has_column, row_of}

-- a new word has the columns of its place
pub column_within : (words : List ℕ) (at word k : ℕ) → at < length words → k / 64 ≡ at
    → has_column (slice_set words at word) k ≡ (bit_at word (k % 64) == 1)
unfolding has_column
column_within words at word k within is =
    ap (λ j. bit_at (slice_index_or (slice_set words at word) j 0) (k % 64) == 1) is
    ∙ ap (λ w. bit_at w (k % 64) == 1) (get_or-set_same words at word 0 within)

-- and the columns of others stay
pub column_beside : (words : List ℕ) (at word k : ℕ) → k / 64 ≢ at → has_column (slice_set words at word) k ≡ has_column words k
unfolding has_column
column_beside words at word k apart = ap (λ w. bit_at w (k % 64) == 1) (get_or-set_other words at (k / 64) word 0 apart)

-- a column by the word in which it is
pub column_in : (words : List ℕ) (at k : ℕ) → k / 64 ≡ at → has_column words k ≡ (bit_at (slice_index_or words at 0) (k % 64) == 1)
unfolding has_column
column_in words at k is = ap (λ j. bit_at (slice_index_or words j 0) (k % 64) == 1) is

-- a column is its place in its word
same_column : (k c : ℕ) → k / 64 ≡ c / 64 → k % 64 ≡ c % 64 → k ≡ c
same_column k c word bit = omega arith

module _ (words : List ℕ) (c : ℕ) (wide : length words ≡ 4) (small : c < 256) where
  abbrev word : ℕ
  word = slice_index_or words (c / 64) 0

  within : c / 64 < length words
  within = omega (arith, wide, small)

  -- one column more is set
  pub column_set : (k : ℕ) → has_column (slice_set words (c / 64) (bit_or word (1 * 2 ^ (c % 64) % 2 ^ 64))) k ≡ (nat_eq k c || has_column words k)
  column_set k = by (nat_eq (k / 64) (c / 64)) refl (nat_eq (k % 64) (c % 64)) refl
    where
      low : c % 64 < 64
      low = omega arith

      by : (s : Bool) → nat_eq (k / 64) (c / 64) ≡ s → (t : Bool) → nat_eq (k % 64) (c % 64) ≡ t
          → has_column (slice_set words (c / 64) (bit_or word (1 * 2 ^ (c % 64) % 2 ^ 64))) k ≡ (nat_eq k c || has_column words k)
      by false other t _ =
          let apart : k / 64 ≢ c / 64 = eqb-false (k / 64) (c / 64) other in
          let differ : nat_eq k c ≡ false = ne_eqb k c (λ e. apart (ap (λ x. x / 64) e)) in
          column_beside words (c / 64) _ k apart ∙ sym (ap (λ b. b || has_column words k) differ)
      by true at true is =
          let same : k ≡ c = same_column k c (eqb-true (k / 64) (c / 64) at) (eqb-true (k % 64) (c % 64) is) in
          column_within words (c / 64) _ k within (eqb-true (k / 64) (c / 64) at)
          ∙ ap (λ x. bit_at (bit_or word (1 * 2 ^ (c % 64) % 2 ^ 64)) x == 1) (eqb-true (k % 64) (c % 64) is)
          ∙ ap (λ x. x == 1) (bit_at_set_same w64 word (c % 64) low)
          ∙ sym (ap (λ b. b || has_column words k) (eq-eqb k c same))
      by true at false isn't =
          let apart : k % 64 ≢ c % 64 = eqb-false (k % 64) (c % 64) isn't in
          let differ : nat_eq k c ≡ false = ne_eqb k c (λ e. apart (ap (λ x. x % 64) e)) in
          column_within words (c / 64) _ k within (eqb-true (k / 64) (c / 64) at)
          ∙ ap (λ x. x == 1) (bit_at_set_other w64 word (c % 64) low (k % 64) apart)
          ∙ sym (column_in words (c / 64) k (eqb-true (k / 64) (c / 64) at))
          ∙ sym (ap (λ b. b || has_column words k) differ)

  -- one column is cleared
  pub column_cleared : (k : ℕ) → has_column (slice_set words (c / 64) (bit_and word (bit_not w64 (1 * 2 ^ (c % 64) % 2 ^ 64)))) k
      ≡ (not (nat_eq k c) && has_column words k)
  column_cleared k = by (nat_eq (k / 64) (c / 64)) refl (nat_eq (k % 64) (c % 64)) refl
    where
      low : c % 64 < 64
      low = omega arith

      by : (s : Bool) → nat_eq (k / 64) (c / 64) ≡ s → (t : Bool) → nat_eq (k % 64) (c % 64) ≡ t
          → has_column (slice_set words (c / 64) (bit_and word (bit_not w64 (1 * 2 ^ (c % 64) % 2 ^ 64)))) k
          ≡ (not (nat_eq k c) && has_column words k)
      by false other t _ =
          let apart : k / 64 ≢ c / 64 = eqb-false (k / 64) (c / 64) other in
          let differ : nat_eq k c ≡ false = ne_eqb k c (λ e. apart (ap (λ x. x / 64) e)) in
          column_beside words (c / 64) _ k apart ∙ sym (ap (λ b. not b && has_column words k) differ)
      by true at true is =
          let same : k ≡ c = same_column k c (eqb-true (k / 64) (c / 64) at) (eqb-true (k % 64) (c % 64) is) in
          column_within words (c / 64) _ k within (eqb-true (k / 64) (c / 64) at)
          ∙ ap (λ x. bit_at (bit_and word (bit_not w64 (1 * 2 ^ (c % 64) % 2 ^ 64))) x == 1) (eqb-true (k % 64) (c % 64) is)
          ∙ ap (λ x. x == 1) (bit_at_clear_same w64 word (c % 64) low)
          ∙ sym (ap (λ b. not b && has_column words k) (eq-eqb k c same))
      by true at false isn't =
          let apart : k % 64 ≢ c % 64 = eqb-false (k % 64) (c % 64) isn't in
          let differ : nat_eq k c ≡ false = ne_eqb k c (λ e. apart (ap (λ x. x % 64) e)) in
          column_within words (c / 64) _ k within (eqb-true (k / 64) (c / 64) at)
          ∙ ap (λ x. x == 1) (bit_at_clear_other w64 word (c % 64) low (k % 64) (omega arith) apart)
          ∙ sym (column_in words (c / 64) k (eqb-true (k / 64) (c / 64) at))
          ∙ sym (ap (λ b. not b && has_column words k) differ)

greater_is_one : (x y : ℕ) → x < 2 → y < 2 → (max x y == 1) ≡ ((x == 1) || (y == 1))
greater_is_one zero zero _ _ = refl
greater_is_one zero (suc zero) _ _ = refl
greater_is_one (suc zero) zero _ _ = refl
greater_is_one (suc zero) (suc zero) _ _ = refl
greater_is_one zero (suc (suc y)) _ q = absurd (omega arith)
greater_is_one (suc zero) (suc (suc y)) _ q = absurd (omega arith)
greater_is_one (suc (suc x)) y p _ = absurd (omega arith)

-- where each word is joined with another, the columns are
pub columns_joined : (new old others : List ℕ) → length new ≡ 4 → length old ≡ 4 → length others ≡ 4
    → ((j : ℕ) → j < 4 → slice_index_or new j 0 ≡ bit_or (slice_index_or old j 0) (slice_index_or others j 0))
    → (k : ℕ) → has_column new k ≡ (has_column old k || has_column others k)
unfolding has_column
columns_joined new old others n o p each k =
    let a = slice_index_or old (k / 64) 0 in
    let b = slice_index_or others (k / 64) 0 in
    ap (λ w. bit_at w (k % 64) == 1) (at (k / 64)) ∙ ap (λ x. x == 1) (bit_at_or a b (k % 64))
    ∙ greater_is_one (bit_at a (k % 64)) (bit_at b (k % 64)) (bit_at-lt a (k % 64)) (bit_at-lt b (k % 64))
  where
    at : (j : ℕ) → slice_index_or new j 0 ≡ bit_or (slice_index_or old j 0) (slice_index_or others j 0)
    at j = elim (cases_lt j 4) [
      | inl less ↦ each j less
      | inr past ↦
          get_or_past new j 0 (omega (arith, n, past))
          ∙ sym (ap (λ x. bit_or x (slice_index_or others j 0)) (get_or_past old j 0 (omega (arith, o, past))) ∙ ap (bit_or 0) (get_or_past others j 0 (omega (arith, p, past))))
    ]

-- where all words are alike from one on, so are the columns
pub columns_alike : (words old : List ℕ) (k m : ℕ) → ((j : ℕ) → k ≤ j → slice_index_or words j 0 ≡ slice_index_or old j 0) → k ≤ m / 64
    → has_column words m ≡ has_column old m
unfolding has_column
columns_alike words old k m same from = ap (λ w. bit_at w (m % 64) == 1) (same (m / 64) from)

-- behind the last column nothing is set
pub past_columns : (words : List ℕ) (m : ℕ) → length words ≡ 4 → 256 ≤ m → has_column words m ≡ false
unfolding has_column
past_columns words m wide past =
    ap (λ w. bit_at w (m % 64) == 1) (get_or_past words (m / 64) 0 (omega (arith, wide, past))) ∙ ap (λ x. x == 1) (bit_at-zero (m % 64))

-- a row has the columns of its words
pub nth_column : (words : List ℕ) (n from k : ℕ) → k < n → slice_index_or (columns_from words from n) k false ≡ has_column words (from + k)
nth_column words zero from k less = absurd (omega arith)
nth_column words (suc n) from zero less = ap (has_column words) (let e : from ≡ from + 0 = omega arith in e)
nth_column words (suc n) from (suc k) less =
    nth_column words n (from + 1) k (omega arith) ∙ ap (has_column words) (let e : from + 1 + k ≡ from + suc k = omega arith in e)

columns_long : (words : List ℕ) (n from : ℕ) → length (columns_from words from n) ≡ n
columns_long words zero from = refl
columns_long words (suc n) from = ap suc (columns_long words n (from + 1))

pub column_of : (words : List ℕ) (k : ℕ) → length words ≡ 4 → slice_index_or (row_of words) k false ≡ has_column words k
unfolding row_of
column_of words k wide = by (cases_lt k 256)
  where
    by : (k < 256) ⊎ (256 ≤ k) → slice_index_or (columns_from words 0 256) k false ≡ has_column words k
    by (inl less) = nth_column words 256 0 k less ∙ ap (has_column words) (let e : 0 + k ≡ k = omega arith in e)
    by (inr past) = get_or_past (columns_from words 0 256) k false (omega (arith, past, columns_long words 256 0)) ∙ sym (past_columns words k wide past)

-- what a row is seen as has the columns of its words
pub column_seen : (seen : List Bool) (words : List ℕ) (k : ℕ) → length words ≡ 4 → row_of words ≡ seen → has_column words k ≡ slice_index_or seen k false
column_seen seen words k wide is = sym (column_of words k wide) ∙ ap (λ v. slice_index_or v k false) is

-- where each word is zero, nothing is set
pub none_set : (words : List ℕ) → length words ≡ 4 → ((j : ℕ) → j < 4 → slice_index_or words j 0 ≡ 0) → (k : ℕ) → has_column words k ≡ false
unfolding has_column
none_set words wide zeros k = ap (λ w. bit_at w (k % 64) == 1) (at (k / 64)) ∙ ap (λ x. x == 1) (bit_at-zero (k % 64))
  where
    at : (j : ℕ) → slice_index_or words j 0 ≡ 0
    at j = elim (cases_lt j 4) [
      | inl less ↦ zeros j less
      | inr past ↦ get_or_past words j 0 (omega (arith, wide, past))
    ]

-- where a word has a one, a column is set
pub some_set : (words : List ℕ) (at t : ℕ) → at < 4 → t < 64 → bit_at (slice_index_or words at 0) t ≡ 1 → (k : ℕ) × (k < 256) × (has_column words k ≡ true)
some_set words at t within less one =
    let word = slice_index_or words at 0 in
    let bit : (at * 64 + t) % 64 ≡ t = omega (arith, less) in
    (at * 64 + t, omega (arith, less, within), column_in words at (at * 64 + t) (omega (arith, less)) ∙ ap (λ x. bit_at word x == 1) bit ∙ eq-eqb (bit_at word t) 1 one)
