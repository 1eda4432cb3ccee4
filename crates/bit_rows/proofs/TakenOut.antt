-- TakenOut: what a word is once a column is taken out of its row.
use Rattle.std.proofs.Common.{◌≡◌, ◌<◌, ◌≤◌, ◌+◌, ◌-◌, ◌*◌, ◌/◌, ◌%◌, ◌^◌, ◌==◌, ◌⊎◌, ◌≢◌, ℕ, suc, min, max, Bool, true, false, List, length, slice_index_or, slice_set, nat_lt, if◌then◌else◌, bit_and, bit_or, w64, refl, ap, sym, ◌∙◌, arith, inl, inr, lt-ltb, le-ltb}
use Rattle.std.specs.Int.{bit_at, bit_not}
use Rattle.std.proofs.lemmas.Bool.{cases_lt}
use Rattle.std.proofs.lemmas.Nat.{one_shl}
use Rattle.std.proofs.lemmas.Nat.Bits.{bit_at_and, bit_at_or, bit_at_not, bit_at-lt, bit_at-suc, bit_at_ones, bit_at_ones_above, bit_at_cat_low}
use Rattle.bit_rows.specs.Cells.{place_before}
use Rattle.bit_rows.specs.Rows.{has_column}
use Rattle.bit_rows.proofs.Columns.{column_beside, column_in, column_within, columns_alike, past_columns}

-- ones below a column of its word
pub ones_before : (k c j : ℕ) → c / 64 ≡ k → j < 64 → bit_at (1 * 2 ^ (c % 64) % 2 ^ 64 - 1) j ≡ (if nat_lt (k * 64 + j) c then 1 else 0)
ones_before k c j at low = ap (λ x. bit_at (x - 1) j) (one_shl (c % 64) 64 (omega arith)) ∙ by (cases_lt j (c % 64))
  where
    by : (j < c % 64) ⊎ (c % 64 ≤ j) → bit_at (2 ^ (c % 64) - 1) j ≡ (if nat_lt (k * 64 + j) c then 1 else 0)
    by (inl less) = bit_at_ones (c % 64) j less ∙ sym (ap (λ t. if t then 1 else 0) (lt-ltb (k * 64 + j) c (omega (arith, at, less))))
    by (inr past) = bit_at_ones_above (c % 64) j past ∙ sym (ap (λ t. if t then 1 else 0) (le-ltb (k * 64 + j) c (omega (arith, at, past))))

-- the columns of a word behind its first
pub moved_up : (word next j : ℕ) → j < 63 → bit_at (next % 2 * 2 ^ 63 + word / 2) j ≡ bit_at word (j + 1)
moved_up word next j less =
    bit_at_cat_low (next % 2) 63 (word / 2) j less ∙ sym (bit_at-suc word j) ∙ ap (bit_at word) (let e : suc j ≡ j + 1 = omega arith in e)

module _ (a b low j : ℕ) (fits : low < 2 ^ 64) (small : j < 64) where
  both : bit_at (bit_or (bit_and a (bit_not w64 low)) (bit_and b low)) j ≡ max (min (bit_at a j) (1 - bit_at low j)) (min (bit_at b j) (bit_at low j))
  both =
      bit_at_or (bit_and a (bit_not w64 low)) (bit_and b low) j
      ∙ ap (λ x. max x (bit_at (bit_and b low) j)) (bit_at_and a (bit_not w64 low) j ∙ ap (min (bit_at a j)) (bit_at_not w64 low j fits small))
      ∙ ap (max (min (bit_at a j) (1 - bit_at low j))) (bit_at_and b low j)

  -- where the mask has a one, the second word stays
  pub masked_in : bit_at low j ≡ 1 → bit_at (bit_or (bit_and a (bit_not w64 low)) (bit_and b low)) j ≡ bit_at b j
  masked_in one = both ∙ omega (arith, one, bit_at-lt b j, bit_at-lt a j)

  -- elsewhere the first does
  pub masked_out : bit_at low j ≡ 0 → bit_at (bit_or (bit_and a (bit_not w64 low)) (bit_and b low)) j ≡ bit_at a j
  masked_out none = both ∙ omega (arith, none, bit_at-lt b j, bit_at-lt a j)

module _ (words : List ℕ) (k c next low moved : ℕ) (fits : low < 2 ^ 64) (behind : next ≡ slice_index_or words (k + 1) 0) (at : c / 64 ≤ k)
    (ones : (j : ℕ) → j < 64 → bit_at low j ≡ (if nat_lt (k * 64 + j) c then 1 else 0))
    (own : (j : ℕ) → j < 63 → bit_at moved j ≡ bit_at (slice_index_or words k 0) (j + 1)) (last : bit_at moved 63 ≡ bit_at next 0) where
  abbrev taken : ℕ
  taken = bit_or (bit_and moved (bit_not w64 low)) (bit_and (slice_index_or words k 0) low)

  -- a column before it stays
  stays : (m : ℕ) → m / 64 ≡ k → nat_lt m c ≡ true → (bit_at taken (m % 64) == 1) ≡ has_column words m
  stays m is before =
      let place : k * 64 + m % 64 ≡ m = omega (arith, is) in
      let one : bit_at low (m % 64) ≡ 1 = ones (m % 64) (omega arith) ∙ ap (λ x. if nat_lt x c then 1 else 0) place ∙ ap (λ t. if t then 1 else 0) before in
      ap (λ x. x == 1) (masked_in moved (slice_index_or words k 0) low (m % 64) fits (omega arith) one) ∙ sym (column_in words k m is)

  -- one behind it moves up
  moves : (m : ℕ) → m / 64 ≡ k → nat_lt m c ≡ false → (bit_at taken (m % 64) == 1) ≡ has_column words (m + 1)
  moves m is past =
      let place : k * 64 + m % 64 ≡ m = omega (arith, is) in
      let none : bit_at low (m % 64) ≡ 0 = ones (m % 64) (omega arith) ∙ ap (λ x. if nat_lt x c then 1 else 0) place ∙ ap (λ t. if t then 1 else 0) past in
      ap (λ x. x == 1) (masked_out moved (slice_index_or words k 0) low (m % 64) fits (omega arith) none) ∙ by (cases_lt (m % 64) 63)
    where
      by : (m % 64 < 63) ⊎ (63 ≤ m % 64) → (bit_at moved (m % 64) == 1) ≡ has_column words (m + 1)
      by (inl less) =
          let word : (m + 1) / 64 ≡ k = omega (arith, is, less) in
          let bit : m % 64 + 1 ≡ (m + 1) % 64 = omega (arith, is, less) in
          ap (λ x. x == 1) (own (m % 64) less ∙ ap (bit_at (slice_index_or words k 0)) bit) ∙ sym (column_in words k (m + 1) word)
      by (inr end) =
          let word : (m + 1) / 64 ≡ k + 1 = omega (arith, is, end) in
          let bit : 0 ≡ (m + 1) % 64 = omega (arith, is, end) in
          let top : m % 64 ≡ 63 = omega (arith, end) in
          ap (λ x. bit_at moved x == 1) top ∙ ap (λ x. x == 1) (last ∙ ap (λ w. bit_at w 0) behind ∙ ap (bit_at (slice_index_or words (k + 1) 0)) bit)
          ∙ sym (column_in words (k + 1) (m + 1) word)

  -- so the word has the columns that were there before
  pub word_without : (m : ℕ) → m / 64 ≡ k → (bit_at taken (m % 64) == 1) ≡ has_column words (place_before c m)
  word_without m is = by (nat_lt m c) refl
    where
      by : (t : Bool) → nat_lt m c ≡ t → (bit_at taken (m % 64) == 1) ≡ has_column words (place_before c m)
      by true before = stays m is before ∙ sym (ap (λ t. has_column words (if t then m else m + 1)) before)
      by false past = moves m is past ∙ sym (ap (λ t. has_column words (if t then m else m + 1)) past)

-- the column that was there before isn't in an earlier word
not_earlier : (c k m : ℕ) → k ≤ m / 64 → k ≤ place_before c m / 64
not_earlier c k m from = by (nat_lt m c)
  where
    by : (t : Bool) → k ≤ (if t then m else m + 1) / 64
    by true = from
    by false = omega (arith, from)

-- one word more is without the column
pub one_word_more : (words old : List ℕ) (c k word m : ℕ) → length words ≡ 4 → k < 4
    → ((n : ℕ) → n / 64 ≡ k → (bit_at word (n % 64) == 1) ≡ has_column words (place_before c n))
    → ((n : ℕ) → n < k * 64 → has_column words n ≡ has_column old (place_before c n))
    → ((j : ℕ) → k ≤ j → slice_index_or words j 0 ≡ slice_index_or old j 0)
    → m < (k + 1) * 64 → has_column (slice_set words k word) m ≡ has_column old (place_before c m)
one_word_more words old c k word m wide within here before same less = by (cases_lt m (k * 64))
  where
    by : (m < k * 64) ⊎ (k * 64 ≤ m) → has_column (slice_set words k word) m ≡ has_column old (place_before c m)
    by (inl earlier) = let apart : m / 64 ≢ k = λ e. absurd (omega (arith, e, earlier)) in column_beside words k word m apart ∙ before m earlier
    by (inr at) =
        let is : m / 64 ≡ k = omega (arith, at, less) in
        column_within words k word m (omega (arith, within, wide)) is ∙ here m is
        ∙ columns_alike words old k (place_before c m) same (not_earlier c k m (omega (arith, is)))

-- behind the last column nothing is set, before and after
pub all_columns : (words old : List ℕ) (c m : ℕ) → length words ≡ 4 → length old ≡ 4 → c < 256
    → ((n : ℕ) → n < 256 → has_column words n ≡ has_column old (place_before c n)) → has_column words m ≡ has_column old (place_before c m)
all_columns words old c m wide before small each = by (cases_lt m 256)
  where
    by : (m < 256) ⊎ (256 ≤ m) → has_column words m ≡ has_column old (place_before c m)
    by (inl less) = each m less
    by (inr past) =
        past_columns words m wide past
        ∙ sym (ap (λ t. has_column old (if t then m else m + 1)) (le-ltb m c (omega (arith, past, small))) ∙ past_columns old (m + 1) before (omega (arith, past)))
