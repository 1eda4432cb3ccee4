-- An entry is carried on and back over those with which it may change places, and over no others.
use Rattle.std.proofs.Common.{◌≡◌, ℕ, zero, suc, ◌+◌, ◌-◌, ◌<◌, ◌≤◌, Bool, true, false, cond, ◌&&◌, List, [], ◌∷◌, ◌++◌, length, Option, Some, None, sym, refl, ap, ◌∙◌, arith, append_assoc, length-append}
use Rattle.std.specs.List.{list_all}
use Rattle.std.specs.Option.{option_map}
use Rattle.process_tree.specs.declared.entry.Entry.{Entry}
use Rattle.schedule_model.specs.Conflict.{ConflictRelation}
use Rattle.schedule_model.specs.Reduction.{can_change, exchanged, and_then, carried_on, carried_back}
use Rattle.schedule_model.proofs.Members.{all-among}
use Rattle.schedule_model.proofs.Places.{exchange_at, carry_on, carry_back}

module _ (table : ConflictRelation) where
  -- there is no place 0
  pub exchanged-zero : (xs : List Entry) → exchanged table 0 xs ≡ None
  exchanged-zero [] = refl
  exchanged-zero (a ∷ xs) = refl

  -- nothing stands behind the last place
  pub exchanged-past : (at : ℕ) (xs : List Entry) → length xs ≤ at → exchanged table at xs ≡ None
  exchanged-past at [] le = refl
  exchanged-past zero (a ∷ xs) le = refl
  exchanged-past (suc zero) (a ∷ []) le = refl
  exchanged-past (suc zero) (a ∷ b ∷ xs) le = absurd (omega arith)
  exchanged-past (suc (suc at)) (a ∷ xs) le = ap (option_map (λ ys. a ∷ ys)) (exchanged-past (suc at) xs (omega arith))

  length-first : (a b : Entry) (xs ys : List Entry) (t : Bool) → cond t (Some (b ∷ a ∷ xs)) None ≡ Some ys → length ys ≡ length (a ∷ b ∷ xs)
  length-first a b xs ys true e = let same : b ∷ a ∷ xs ≡ ys = cc in sym (ap length same)
  length-first a b xs ys false e = absurd (cc)

  length-later : (a : Entry) (n : ℕ) (o : Option (List Entry)) (ys : List Entry) → ((zs : List Entry) → o ≡ Some zs → length zs ≡ n)
      → option_map (λ zs. a ∷ zs) o ≡ Some ys → length ys ≡ suc n
  length-later a n None ys rest e = absurd (cc)
  length-later a n (Some zs) ys rest e = let same : a ∷ zs ≡ ys = cc in sym (ap length same) ∙ ap suc (rest zs refl)

  -- an exchange keeps the length
  pub exchanged-length : (at : ℕ) (xs ys : List Entry) → exchanged table at xs ≡ Some ys → length ys ≡ length xs
  exchanged-length at [] ys e = absurd (cc)
  exchanged-length zero (a ∷ xs) ys e = absurd (cc)
  exchanged-length (suc zero) (a ∷ []) ys e = absurd (cc)
  exchanged-length (suc zero) (a ∷ b ∷ xs) ys e = length-first a b xs ys (can_change table a b) e
  exchanged-length (suc (suc at)) (a ∷ xs) ys e = length-later a (length xs) (exchanged table (suc at) xs) ys (λ zs f. exchanged-length (suc at) xs zs f) e

  -- neighbours that may not change places stay
  pub exchange-refused : (front : List Entry) (a b : Entry) (rest : List Entry) → can_change table a b ≡ false
      → exchanged table (suc (length front)) (front ++ a ∷ b ∷ rest) ≡ None
  exchange-refused [] a b rest not' = ap (λ c. cond c (Some (b ∷ a ∷ rest)) None) not'
  exchange-refused (c ∷ front) a b rest not' = ap (option_map (λ ys. c ∷ ys)) (exchange-refused front a b rest not')

  after_none : (f : List Entry → Option (List Entry)) (o : Option (List Entry)) → ((ys : List Entry) → o ≡ Some ys → f ys ≡ None) → and_then o f ≡ None
  after_none f None rest = refl
  after_none f (Some ys) rest = rest ys refl

  -- an entry that isn't there isn't carried on
  pub on-zero : (n : ℕ) (xs : List Entry) → carried_on table (suc n) 0 xs ≡ None
  on-zero n xs = ap (λ o. and_then o (carried_on table n 1)) (exchanged-zero xs)

  -- no entry is carried on past the last place
  pub on-past : (n from : ℕ) (xs : List Entry) → length xs < from + suc n → carried_on table (suc n) from xs ≡ None
  on-past zero from xs less = ap (λ o. and_then o (carried_on table 0 (from + 1))) (exchanged-past from xs (omega arith))
  on-past (suc n) from xs less =
      after_none (carried_on table (suc n) (from + 1)) (exchanged table from xs)
      (λ ys e. let l = exchanged-length from xs ys e in on-past n (from + 1) ys (omega arith))

  on-refused_first : (front : List Entry) (x b : Entry) (bs rest : List Entry) (t : Bool) → can_change table x b ≡ t
      → (list_all (can_change table x) bs ≡ false → carried_on table (length bs) (suc (length (front ++ b ∷ []))) ((front ++ b ∷ []) ++ x ∷ (bs ++ rest)) ≡ None)
      → (t && list_all (can_change table x) bs) ≡ false
      → carried_on table (suc (length bs)) (suc (length front)) (front ++ x ∷ (b ∷ (bs ++ rest))) ≡ None
  on-refused_first front x b bs rest false is later none = ap (λ o. and_then o (carried_on table (length bs) (suc (length front) + 1))) (exchange-refused front x b (bs ++ rest) is)
  on-refused_first front x b bs rest true is later none =
      let at : suc (length front) + 1 ≡ suc (length (front ++ b ∷ [])) = (let l = length-append front (b ∷ []) in omega arith) in
      ap (λ o. and_then o (carried_on table (length bs) (suc (length front) + 1))) (exchange_at table front x b (bs ++ rest) is)
      ∙ (ap (λ n. carried_on table (length bs) n (front ++ b ∷ x ∷ (bs ++ rest))) at
      ∙ (ap (carried_on table (length bs) (suc (length (front ++ b ∷ [])))) (sym (append_assoc front (b ∷ []) (x ∷ (bs ++ rest))))
      ∙ later none))

  -- nor past one with which it may not change places
  pub on-refused : (front : List Entry) (x : Entry) (bs rest : List Entry) → list_all (can_change table x) bs ≡ false
      → carried_on table (length bs) (suc (length front)) (front ++ x ∷ (bs ++ rest)) ≡ None
  on-refused front x [] rest none = absurd (cc)
  on-refused front x (b ∷ bs) rest none =
      on-refused_first front x b bs rest (can_change table x b) refl (λ later. on-refused (front ++ b ∷ []) x bs rest later) none

  -- an entry is carried on over those with which it may change places
  pub on-carried : (front : List Entry) (x : Entry) (bs rest : List Entry) → list_all (can_change table x) bs ≡ true
      → carried_on table (length bs) (suc (length front)) (front ++ x ∷ (bs ++ rest)) ≡ Some (front ++ (bs ++ x ∷ rest))
  on-carried front x bs rest all = carry_on table front x bs rest (λ b is. all-among (can_change table x) bs all b is)

  -- no entry is carried back to place 0
  pub back-zero : (n from : ℕ) (xs : List Entry) → from ≤ suc n → carried_back table (suc n) from xs ≡ None
  back-zero zero from xs le =
      ap (λ o. and_then o (carried_back table 0 (from - 1))) (ap (λ at. exchanged table at xs) (let e : from - 1 ≡ 0 = omega arith in e) ∙ exchanged-zero xs)
  back-zero (suc n) from xs le =
      after_none (carried_back table (suc n) (from - 1)) (exchanged table (from - 1) xs) (λ ys e. back-zero n (from - 1) ys (omega arith))

  ends_there : (from : ℕ) (o : Option (List Entry)) → and_then o (carried_back table 0 (from - 1)) ≡ o
  ends_there from None = refl
  ends_there from (Some ys) = refl

  more_by : (n from : ℕ) (ys : List Entry) (last o : Option (List Entry))
      → ((us : List Entry) → carried_back table n (from - 1) us ≡ Some ys → carried_back table (suc n) (from - 1) us ≡ last)
      → and_then o (carried_back table n (from - 1)) ≡ Some ys → and_then o (carried_back table (suc n) (from - 1)) ≡ last
  more_by n from ys last None rest e = absurd (cc)
  more_by n from ys last (Some us) rest e = rest us e

  -- one exchange more comes last
  pub back-more : (n from : ℕ) (xs ys : List Entry) → carried_back table n from xs ≡ Some ys → carried_back table (suc n) from xs ≡ exchanged table (from - n - 1) ys
  back-more zero from xs ys first =
      let same : xs ≡ ys = cc in
      ends_there from (exchanged table (from - 1) xs)
      ∙ (ap (exchanged table (from - 1)) same ∙ ap (λ at. exchanged table at ys) (let e : from - 1 ≡ from - 0 - 1 = omega arith in e))
  back-more (suc n) from xs ys first =
      more_by n from ys (exchanged table (from - suc n - 1) ys) (exchanged table (from - 1) xs)
      (λ us e. back-more n (from - 1) us ys e ∙ ap (λ at. exchanged table at ys) (let same : from - 1 - n - 1 ≡ from - suc n - 1 = omega arith in same)) first

  none_by : (n from : ℕ) (o : Option (List Entry)) → ((us : List Entry) → carried_back table n (from - 1) us ≡ None → carried_back table (suc n) (from - 1) us ≡ None)
      → and_then o (carried_back table n (from - 1)) ≡ None → and_then o (carried_back table (suc n) (from - 1)) ≡ None
  none_by n from None rest e = refl
  none_by n from (Some us) rest e = rest us e

  pub back-none : (n from : ℕ) (xs : List Entry) → carried_back table n from xs ≡ None → carried_back table (suc n) from xs ≡ None
  back-none zero from xs none = absurd (cc)
  back-none (suc n) from xs none = none_by n from (exchanged table (from - 1) xs) (λ us e. back-none n (from - 1) us e) none

  -- an entry is carried back over those that may change places with it
  pub back-carried : (front : List Entry) (x : Entry) (bs rest : List Entry) → list_all (λ b. can_change table b x) bs ≡ true
      → carried_back table (length bs) (suc (length front) + length bs) (front ++ (bs ++ x ∷ rest)) ≡ Some (front ++ x ∷ (bs ++ rest))
  back-carried front x bs rest all = carry_back table front x bs rest (λ b is. all-among (λ b. can_change table b x) bs all b is)

  back-refused_first : (front : List Entry) (x b : Entry) (bs rest : List Entry) (later : Bool) → list_all (λ b. can_change table b x) bs ≡ later
      → (first : Bool) → can_change table b x ≡ first
      → (list_all (λ b. can_change table b x) bs ≡ false → carried_back table (length bs) (suc (length (front ++ b ∷ [])) + length bs) ((front ++ b ∷ []) ++ (bs ++ x ∷ rest)) ≡ None)
      → (first && later) ≡ false
      → carried_back table (suc (length bs)) (suc (length front) + suc (length bs)) (front ++ (b ∷ (bs ++ x ∷ rest))) ≡ None
  back-refused_first front x b bs rest later is first can rest_none none =
      ap (λ n. carried_back table (suc (length bs)) n (front ++ (b ∷ (bs ++ x ∷ rest)))) (sym there)
      ∙ (ap (carried_back table (suc (length bs)) from) (sym split) ∙ by_test later is first can none)
    where
      from : ℕ
      from = suc (length (front ++ b ∷ [])) + length bs

      there : from ≡ suc (length front) + suc (length bs)
      there = let l = length-append front (b ∷ []) in omega arith

      split : (front ++ b ∷ []) ++ (bs ++ x ∷ rest) ≡ front ++ (b ∷ (bs ++ x ∷ rest))
      split = append_assoc front (b ∷ []) (bs ++ x ∷ rest)

      at : from - length bs - 1 ≡ suc (length front)
      at = let l = length-append front (b ∷ []) in omega arith

      by_test : (later : Bool) → list_all (λ b. can_change table b x) bs ≡ later → (first : Bool) → can_change table b x ≡ first → (first && later) ≡ false
          → carried_back table (suc (length bs)) from ((front ++ b ∷ []) ++ (bs ++ x ∷ rest)) ≡ None
      by_test false is first can none = back-none (length bs) from ((front ++ b ∷ []) ++ (bs ++ x ∷ rest)) (rest_none is)
      by_test true is true can none = absurd (cc)
      by_test true is false can none =
          back-more (length bs) from ((front ++ b ∷ []) ++ (bs ++ x ∷ rest)) ((front ++ b ∷ []) ++ x ∷ (bs ++ rest)) (back-carried (front ++ b ∷ []) x bs rest is)
          ∙ (ap (λ n. exchanged table n ((front ++ b ∷ []) ++ x ∷ (bs ++ rest))) at
          ∙ (ap (exchanged table (suc (length front))) (append_assoc front (b ∷ []) (x ∷ (bs ++ rest)))
          ∙ exchange-refused front b x (bs ++ rest) can))

  -- and not over one that may not
  pub back-refused : (front : List Entry) (x : Entry) (bs rest : List Entry) → list_all (λ b. can_change table b x) bs ≡ false
      → carried_back table (length bs) (suc (length front) + length bs) (front ++ (bs ++ x ∷ rest)) ≡ None
  back-refused front x [] rest none = absurd (cc)
  back-refused front x (b ∷ bs) rest none =
      back-refused_first front x b bs rest (list_all (λ b. can_change table b x) bs) refl (can_change table b x) refl (λ is. back-refused (front ++ b ∷ []) x bs rest is) none
