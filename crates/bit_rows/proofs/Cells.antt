-- Rows of places: what stands where once a row was written, a row was added, or a place was taken out.
use Rattle.std.proofs.Common.{◌≡◌, ◌<◌, ◌≢◌, ◌≤◌, ◌+◌, ℕ, zero, suc, Bool, true, false, List, [], ◌∷◌, ◌++◌, length, take, drop, slice_index_or, sym, refl, ap, arith, ◌∙◌, get_or-set_same, get_or-set_other}
use Rattle.std.specs.Prelude.{if◌then◌else◌, nat_eq, nat_lt, remove, replicate, slice_set}
use Rattle.std.proofs.lemmas.Bool.{eqb-true, eqb-false, le-ltb, lt-ltb, ltb-true, ltb-false}
use Rattle.std.proofs.Math.Seq.{take-append_seam}
use Rattle.std.proofs.lemmas.List.Edits.{get_or-remove_above, get_or-remove_below}
use Rattle.std.proofs.lemmas.List.{get_or-replicate, get_or_past, length-replicate}
use Rattle.bit_rows.specs.Cells.{cell_or, place_before}

module _ {A : Type 0} (none : A) where
  -- where nothing else stands, nothing else is at any place
  pub none_in_row : (n b : ℕ) → slice_index_or (replicate n none) b none ≡ none
  none_in_row n b = by (nat_lt b n) refl
    where
      by : (t : Bool) → nat_lt b n ≡ t → slice_index_or (replicate n none) b none ≡ none
      by true is = get_or-replicate n b none none (ltb-true b n is)
      by false is = let past = ltb-false b n is in get_or_past (replicate n none) b none (rw length-replicate past)

  -- one row more has what is wanted
  pub one_row_more : (wanted : ℕ → A) (rows : List (List A)) (row : List A) (at a b : ℕ) → at < length rows → slice_index_or row b none ≡ wanted at
      → (a < at → cell_or none rows a b ≡ wanted a) → a < at + 1 → cell_or none (slice_set rows at row) a b ≡ wanted a
  one_row_more wanted rows row at a b within is before less = by (nat_eq a at) refl
    where
      by : (t : Bool) → nat_eq a at ≡ t → cell_or none (slice_set rows at row) a b ≡ wanted a
      by true here =
          let same = eqb-true a at here in
          ap (λ k. cell_or none (slice_set rows at row) k b) same ∙ ap (λ r. slice_index_or r b none) (get_or-set_same rows at row [] within) ∙ is ∙ ap wanted (sym same)
      by false there = let other : a ≢ at = eqb-false a at there in
          ap (λ r. slice_index_or r b none) (get_or-set_other rows at a row [] other) ∙ before (omega (arith, other, less))

  -- a row more at the end, where nothing else stands
  pub pushed_none : (rows : List (List A)) (row : List A) (a b : ℕ) → slice_index_or row b none ≡ none → cell_or none (rows ++ row ∷ []) a b ≡ cell_or none rows a b
  pushed_none [] row zero b is = is
  pushed_none [] row (suc a) b is = refl
  pushed_none (x ∷ rows) row zero b is = refl
  pushed_none (x ∷ rows) row (suc a) b is = pushed_none rows row a b is

  -- behind the last row there is nothing
  pub past_rows : (rows : List (List A)) (a b : ℕ) → length rows ≤ a → cell_or none rows a b ≡ none
  past_rows rows a b past = ap (λ r. slice_index_or r b none) (get_or_past rows a [] past)

  -- all rows have it
  pub all_rows : (wanted : ℕ → A) (old new : List (List A)) (at a b : ℕ) → length new ≡ length old → length old ≤ at → (length old ≤ a → wanted a ≡ none)
      → (a < at → cell_or none new a b ≡ wanted a) → cell_or none new a b ≡ wanted a
  all_rows wanted old new at a b count all is before = by (nat_lt a at) refl
    where
      by : (t : Bool) → nat_lt a at ≡ t → cell_or none new a b ≡ wanted a
      by true less = before (ltb-true a at less)
      by false most =
          let past = ltb-false a at most in
          past_rows new a b (omega (arith, past, count, all)) ∙ sym (is (omega (arith, past, all)))

  -- nor is there anything once a place was cleared
  pub past_cleared : (old : List (List A)) (p a b : ℕ) → length old ≤ a → (if nat_eq b p then none else cell_or none old a b) ≡ none
  past_cleared old p a b past = by (nat_eq b p) (past_rows old a b past)
    where
      by : (t : Bool) → cell_or none old a b ≡ none → (if t then none else cell_or none old a b) ≡ none
      by true is = refl
      by false is = is

pub length_pushed : {A : Type 0} (rows : List A) (row : A) → length (rows ++ row ∷ []) ≡ length rows + 1
length_pushed [] row = omega arith
length_pushed (x ∷ rows) row = let longer = length_pushed rows row in omega (arith, longer)

pub before_below : (p b : ℕ) → b < p → place_before p b ≡ b
before_below p b less = ap (λ t. if t then b else b + 1) (lt-ltb b p less)

pub before_above : (p b : ℕ) → p ≤ b → place_before p b ≡ b + 1
before_above p b past = ap (λ t. if t then b else b + 1) (le-ltb b p past)

module _ {A : Type 0} (none : A) where
  -- what stands at a place of a row is the same, whatever would stand behind it
  pub same_item : (row : List A) (n : ℕ) (other : A) → n < length row → slice_index_or row n other ≡ slice_index_or row n none
  same_item [] n other within = absurd (omega (arith, within))
  same_item (x ∷ row) zero other within = refl
  same_item (x ∷ row) (suc n) other within = same_item row n other (omega (arith, within))

  -- one place more has moved up
  pub one_moved : (old row : List A) (item : A) (p to b : ℕ) → p ≤ to → to < length row → item ≡ slice_index_or old (to + 1) none
      → (b < to → slice_index_or row b none ≡ slice_index_or old (place_before p b) none) → b < to + 1
      → slice_index_or (slice_set row to item) b none ≡ slice_index_or old (place_before p b) none
  one_moved old row item p to b from within same before less = by (nat_eq b to) refl
    where
      by : (t : Bool) → nat_eq b to ≡ t → slice_index_or (slice_set row to item) b none ≡ slice_index_or old (place_before p b) none
      by true is =
          let here = eqb-true b to is in
          ap (λ k. slice_index_or (slice_set row to item) k none) here ∙ get_or-set_same row to item none within
          ∙ same ∙ ap (λ k. slice_index_or old k none) (sym (before_above p to from)) ∙ ap (λ k. slice_index_or old (place_before p k) none) (sym here)
      by false is = let other : b ≢ to = eqb-false b to is in get_or-set_other row to b item none other ∙ before (omega (arith, other, less))

  -- all have moved up, and at the last place there is nothing
  pub all_moved : (old row : List A) (p last b : ℕ) → p ≤ last → length old ≡ last + 1 → length row ≡ last + 1
      → (b < last → slice_index_or row b none ≡ slice_index_or old (place_before p b) none)
      → slice_index_or (slice_set row last none) b none ≡ slice_index_or old (place_before p b) none
  all_moved old row p last b from wide same before = by (nat_lt b last) (nat_eq b last) refl refl
    where
      past : last ≤ b → slice_index_or old (place_before p b) none ≡ none
      past most = ap (λ k. slice_index_or old k none) (before_above p b (omega (arith, most, from))) ∙ get_or_past old (b + 1) none (omega (arith, most, wide))

      by : (t u : Bool) → nat_lt b last ≡ t → nat_eq b last ≡ u → slice_index_or (slice_set row last none) b none ≡ slice_index_or old (place_before p b) none
      by true u less is = let l = ltb-true b last less in let other : b ≢ last = omega (arith, l) in get_or-set_other row last b none none other ∙ before l
      by false true less is =
          ap (λ k. slice_index_or (slice_set row last none) k none) (eqb-true b last is) ∙ get_or-set_same row last none none (omega (arith, same)) ∙ sym (past (ltb-false b last less))
      by false false less is =
          let most = ltb-false b last less in
          let other : b ≢ last = eqb-false b last is in
          get_or-set_other row last b none none other ∙ get_or_past row b none (omega (arith, most, other, same)) ∙ sym (past most)

-- the rows without one
pub row_taken : {A : Type 0} (rows : List (List A)) (p a : ℕ) → p < length rows → slice_index_or (remove rows p) a [] ≡ slice_index_or rows (place_before p a) []
row_taken rows p a within = by (nat_lt a p) refl
  where
    by : (t : Bool) → nat_lt a p ≡ t → slice_index_or (remove rows p) a [] ≡ slice_index_or rows (place_before p a) []
    by true is = let less = ltb-true a p is in get_or-remove_below rows p [] a less within ∙ ap (λ k. slice_index_or rows k []) (sym (before_below p a less))
    by false is = let past = ltb-false a p is in get_or-remove_above rows p [] a past within ∙ ap (λ k. slice_index_or rows k []) (sym (before_above p a past))

-- rows written over as many are what is left
pub written : {A : Type 0} (n : ℕ) (new old : List A) → length new ≡ n → take n (new ++ drop (length new) old) ≡ new
written n new old same = ap (λ k. take k (new ++ drop (length new) old)) (sym same) ∙ take-append_seam new (drop (length new) old)
