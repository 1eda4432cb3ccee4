-- Places in a list that is split there: exchanges, cancels and moves, and what a search for a place finds.
use Rattle.std.proofs.Common.{◌≡◌, inl, inr, ℕ, zero, suc, ◌+◌, ◌-◌, ◌≤◌, Bool, true, false, cond, ltb, leb, ◌&&◌, List, [], ◌∷◌, ◌++◌, length, take, drop, Option, Some, None, sym, refl, ap, ◌∙◌, arith, append_assoc, length-append, if◌then◌else◌}
use Rattle.std.specs.Option.{option_map}
use Rattle.std.proofs.lemmas.Bool.{and_from, eq-eqb, ne_eqb, lt-ltb, le-leb, le-ltb}
use Rattle.process_tree.specs.declared.entry.Entry.{Entry}
use Rattle.schedule_model.specs.declared.trace_step.TraceStep.{TraceStep}
use Rattle.schedule_model.specs.declared.trace_step.TraceStep.TheVariants.{Move}
use Rattle.schedule_model.specs.Conflict.{ConflictRelation}
use Rattle.schedule_model.specs.Reduction.{can_change, is_pair, exchanged, cancelled, and_then, carried_on, carried_back, applied, applied_all}
use Rattle.schedule_model.specs.PrintedTrace.{first_place, entry_at, without, move_between}
use Rattle.schedule_model.proofs.Members.{Among}

module _ (table : ConflictRelation) where
  later : (c : Entry) (o : Option (List Entry)) (ys : List Entry) → o ≡ Some ys → option_map (λ zs. c ∷ zs) o ≡ Some (c ∷ ys)
  later c o ys is = ap (option_map (λ zs. c ∷ zs)) is

  -- the two entries behind a front change places
  pub exchange_at : (front : List Entry) (a b : Entry) (rest : List Entry) → can_change table a b ≡ true
      → exchanged table (suc (length front)) (front ++ a ∷ b ∷ rest) ≡ Some (front ++ b ∷ a ∷ rest)
  exchange_at [] a b rest can = ap (λ c. cond c (Some (b ∷ a ∷ rest)) None) can
  exchange_at (c ∷ front) a b rest can = later c (exchanged table (suc (length front)) (front ++ a ∷ b ∷ rest)) (front ++ b ∷ a ∷ rest) (exchange_at front a b rest can)

  -- a step and its undo behind a front go
  pub cancel_at : (front : List Entry) (a b : Entry) (rest : List Entry) → is_pair a b ≡ true → cancelled (suc (length front)) (front ++ a ∷ b ∷ rest) ≡ Some (front ++ rest)
  cancel_at [] a b rest pair = ap (λ c. cond c (Some rest) None) pair
  cancel_at (c ∷ front) a b rest pair = later c (cancelled (suc (length front)) (front ++ a ∷ b ∷ rest)) (front ++ rest) (cancel_at front a b rest pair)

  -- an entry is carried on over those that it may change places with
  pub carry_on : (front : List Entry) (x : Entry) (bs rest : List Entry) → ((b : Entry) → Among b bs → can_change table x b ≡ true)
      → carried_on table (length bs) (suc (length front)) (front ++ x ∷ (bs ++ rest)) ≡ Some (front ++ (bs ++ x ∷ rest))
  carry_on front x [] rest can = refl
  carry_on front x (b ∷ bs) rest can =
      let at : suc (length front) + 1 ≡ suc (length (front ++ b ∷ [])) = (let l = length-append front (b ∷ []) in omega arith) in
      ap (λ o. and_then o (carried_on table (length bs) (suc (length front) + 1))) (exchange_at front x b (bs ++ rest) (can b (inl refl)))
      ∙ (ap (λ n. carried_on table (length bs) n (front ++ b ∷ x ∷ (bs ++ rest))) at
      ∙ (ap (carried_on table (length bs) (suc (length (front ++ b ∷ [])))) (sym (append_assoc front (b ∷ []) (x ∷ (bs ++ rest))))
      ∙ (carry_on (front ++ b ∷ []) x bs rest (λ c is. can c (inr is))
      ∙ ap Some (append_assoc front (b ∷ []) (bs ++ x ∷ rest)))))

  -- the last of several exchanges backward
  last_by : (n from : ℕ) (ys zs : List Entry) (o : Option (List Entry)) → ((us : List Entry) → carried_back table n (from - 1) us ≡ Some ys → carried_back table (suc n) (from - 1) us ≡ Some zs)
      → and_then o (carried_back table n (from - 1)) ≡ Some ys → and_then o (carried_back table (suc n) (from - 1)) ≡ Some zs
  last_by n from ys zs None rest e = absurd (cc)
  last_by n from ys zs (Some us) rest e = rest us e

  one_more_back : (n from : ℕ) (xs ys zs : List Entry) → carried_back table n from xs ≡ Some ys → exchanged table (from - n - 1) ys ≡ Some zs → carried_back table (suc n) from xs ≡ Some zs
  one_more_back zero from xs ys zs first last =
      let same : xs ≡ ys = cc in
      ap (λ o. and_then o (carried_back table 0 (from - 1)))
      (ap (exchanged table (from - 1)) same ∙ (ap (λ m. exchanged table m ys) (let e : from - 1 ≡ from - 0 - 1 = omega arith in e) ∙ last))
  one_more_back (suc n) from xs ys zs first last =
      last_by n from ys zs (exchanged table (from - 1) xs)
      (λ us e. one_more_back n (from - 1) us ys zs e (ap (λ m. exchanged table m ys) (let same : from - 1 - n - 1 ≡ from - suc n - 1 = omega arith in same) ∙ last)) first

  -- and back: the first of those that are passed is passed last
  pub carry_back : (front : List Entry) (x : Entry) (bs rest : List Entry) → ((b : Entry) → Among b bs → can_change table b x ≡ true)
      → carried_back table (length bs) (suc (length front) + length bs) (front ++ (bs ++ x ∷ rest)) ≡ Some (front ++ x ∷ (bs ++ rest))
  carry_back front x [] rest can = refl
  carry_back front x (b ∷ bs) rest can =
      let before = carry_back (front ++ b ∷ []) x bs rest (λ c is. can c (inr is)) in
      let l = length-append front (b ∷ []) in
      let from : suc (length (front ++ b ∷ [])) + length bs ≡ suc (length front) + suc (length bs) = omega arith in
      one_more_back (length bs) (suc (length front) + suc (length bs)) (front ++ (b ∷ (bs ++ x ∷ rest))) (front ++ b ∷ x ∷ (bs ++ rest)) (front ++ x ∷ (b ∷ (bs ++ rest)))
      (sym (ap (λ n. carried_back table (length bs) n (front ++ (b ∷ (bs ++ x ∷ rest)))) from)
      ∙ (ap (carried_back table (length bs) (suc (length (front ++ b ∷ [])) + length bs)) (sym (append_assoc front (b ∷ []) (bs ++ x ∷ rest)))
      ∙ (before ∙ ap Some (append_assoc front (b ∷ []) (x ∷ (bs ++ rest))))))
      (ap (λ n. exchanged table n (front ++ b ∷ x ∷ (bs ++ rest))) (let same : suc (length front) + suc (length bs) - length bs - 1 ≡ suc (length front) = omega arith in same)
      ∙ exchange_at front b x (bs ++ rest) (can b (inl refl)))

  -- Steps in turn.

  then_by : (ss ts : List TraceStep) (ys : List Entry) (o : Option (List Entry)) → ((us : List Entry) → applied_all table ss us ≡ Some ys → applied_all table (ss ++ ts) us ≡ applied_all table ts ys)
      → and_then o (applied_all table ss) ≡ Some ys → and_then o (applied_all table (ss ++ ts)) ≡ applied_all table ts ys
  then_by ss ts ys None rest e = absurd (cc)
  then_by ss ts ys (Some us) rest e = rest us e

  pub applied_all-append : (ss ts : List TraceStep) (xs ys : List Entry) → applied_all table ss xs ≡ Some ys → applied_all table (ss ++ ts) xs ≡ applied_all table ts ys
  applied_all-append [] ts xs ys is = let same : xs ≡ ys = cc in ap (applied_all table ts) same
  applied_all-append (s ∷ ss) ts xs ys is = then_by ss ts ys (applied table s xs) (λ us e. applied_all-append ss ts us ys e) is

  -- a move from one place to a later one, if they differ
  pub move_on : (n from to : ℕ) (xs ys : List Entry) → from + n ≡ to → carried_on table n from xs ≡ Some ys → applied_all table (move_between from to) xs ≡ Some ys
  move_on zero from to xs ys at is = ap (λ c. applied_all table (cond c [] (Move from to ∷ [])) xs) (eq-eqb from to (omega arith)) ∙ is
  move_on (suc n) from to xs ys at is =
      ap (λ c. applied_all table (cond c [] (Move from to ∷ [])) xs) (ne_eqb from to (λ e. omega arith))
      ∙ ap (λ o. and_then o (applied_all table []))
      (ap (λ c. if c then carried_on table (to - from) from xs else (if ltb to from && leb from (length xs) then carried_back table (from - to) from xs else None)) (lt-ltb from to (omega arith))
      ∙ (ap (λ m. carried_on table m from xs) (let e : to - from ≡ suc n = omega arith in e) ∙ is))

  -- to an earlier one
  pub move_back : (n from to : ℕ) (xs ys : List Entry) → to + n ≡ from → from ≤ length xs → carried_back table n from xs ≡ Some ys → applied_all table (move_between from to) xs ≡ Some ys
  move_back zero from to xs ys at le is = ap (λ c. applied_all table (cond c [] (Move from to ∷ [])) xs) (eq-eqb from to (omega arith)) ∙ is
  move_back (suc n) from to xs ys at le is =
      ap (λ c. applied_all table (cond c [] (Move from to ∷ [])) xs) (ne_eqb from to (λ e. omega arith))
      ∙ ap (λ o. and_then o (applied_all table []))
      (ap (λ c. if c then carried_on table (to - from) from xs else (if ltb to from && leb from (length xs) then carried_back table (from - to) from xs else None)) (le-ltb from to (omega arith))
      ∙ (ap (λ c. if c then carried_back table (from - to) from xs else None) (and_from (ltb to from) (leb from (length xs)) (lt-ltb to from (omega arith)) (le-leb from (length xs) le))
      ∙ (ap (λ m. carried_back table m from xs) (let e : from - to ≡ suc n = omega arith in e) ∙ is)))

-- The first place that passes, and the list there.

pub first_place-at : (test : Entry → Bool) (front : List Entry) (x : Entry) (rest : List Entry) → ((e : Entry) → Among e front → test e ≡ false) → test x ≡ true
    → first_place test (front ++ x ∷ rest) ≡ Some (suc (length front))
first_place-at test [] x rest none is = ap (λ t. cond t (Some 1) (option_map (λ n. n + 1) (first_place test rest))) is
first_place-at test (e ∷ front) x rest none is =
    ap (λ t. cond t (Some 1) (option_map (λ n. n + 1) (first_place test (front ++ x ∷ rest)))) (none e (inl refl))
    ∙ (ap (option_map (λ n. n + 1)) (first_place-at test front x rest (λ f there. none f (inr there)) is)
    ∙ ap Some (let same : suc (length front) + 1 ≡ suc (length (e ∷ front)) = omega arith in same))

pub first_place-none : (test : Entry → Bool) (es : List Entry) → ((e : Entry) → Among e es → test e ≡ false) → first_place test es ≡ None
first_place-none test [] none = refl
first_place-none test (e ∷ es) none =
    ap (λ t. cond t (Some 1) (option_map (λ n. n + 1) (first_place test es))) (none e (inl refl))
    ∙ ap (option_map (λ n. n + 1)) (first_place-none test es (λ f there. none f (inr there)))

take_front : (front rest : List Entry) → take (length front) (front ++ rest) ≡ front
take_front [] [] = refl
take_front [] (x ∷ rest) = refl
take_front (e ∷ front) rest = ap (λ es. e ∷ es) (take_front front rest)

drop_front : (front rest : List Entry) → drop (length front) (front ++ rest) ≡ rest
drop_front [] [] = refl
drop_front [] (x ∷ rest) = refl
drop_front (e ∷ front) rest = drop_front front rest

pub entry_at-split : (front : List Entry) (x : Entry) (rest : List Entry) → entry_at (suc (length front)) (front ++ x ∷ rest) ≡ x ∷ []
entry_at-split front x rest =
    ap (λ n. take 1 (drop n (front ++ x ∷ rest))) (let e : suc (length front) - 1 ≡ length front = omega arith in e)
    ∙ (ap (take 1) (drop_front front (x ∷ rest)) ∙ take_one rest)
  where
    take_one : (rest : List Entry) → take 1 (x ∷ rest) ≡ x ∷ []
    take_one [] = refl
    take_one (y ∷ rest) = refl

pub without-split : (front : List Entry) (x : Entry) (rest : List Entry) → without (suc (length front)) (front ++ x ∷ rest) ≡ front ++ rest
without-split front x rest =
    ap (λ n. take n (front ++ x ∷ rest) ++ drop (suc (length front)) (front ++ x ∷ rest)) (let e : suc (length front) - 1 ≡ length front = omega arith in e)
    ∙ (ap (λ es. es ++ drop (suc (length front)) (front ++ x ∷ rest)) (take_front front (x ∷ rest))
    ∙ ap (λ es. front ++ es) (behind front))
  where
    behind : (front : List Entry) → drop (suc (length front)) (front ++ x ∷ rest) ≡ rest
    behind [] = drop_none rest
      where
        drop_none : (es : List Entry) → drop 0 es ≡ es
        drop_none [] = refl
        drop_none (e ∷ es) = refl
    behind (e ∷ front) = behind front
