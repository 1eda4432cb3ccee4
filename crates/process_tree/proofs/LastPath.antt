-- The path that takes last alternatives: nothing later goes on beside it.
use Rattle.std.proofs.Common.{◌≡◌, ⊎_elim, ℕ, ◌+◌, ◌-◌, ◌<◌, ◌≤◌, zero, suc, Bool, true, false, List, [], ◌∷◌, ◌++◌, length, take, filter, flat_map, Option, Some, None, refl, sym, ap, ◌∙◌, arith, append_assoc, append-nil, length-append, nat_lt, if◌then◌else◌}
use Rattle.std.proofs.lemmas.Bool.{ltb-true, ltb-false, cases_lt}
use Rattle.process_tree.specs.Blocks.{numbers_from}
use Rattle.process_tree.specs.Order.{Each, IsRising, has}
use Rattle.process_tree.specs.Shape.{Shape, next_steps, goes_on_to, greatest, greater, fixed_len, last_path, with_rest}
use Rattle.process_tree.specs.Play.{fallback_of, kept_prefixes}
use Rattle.process_tree.proofs.Fixed.{take_whole}
use Rattle.process_tree.proofs.Branches.{has_cases, has_here, has_there, Each-among}
use Rattle.process_tree.proofs.Numbers.{numbers_between, in_flat, in_filter, least_is, some_greater}
use Rattle.process_tree.proofs.Onward.{onward_above, goes_along}
use Rattle.process_tree.proofs.InTurn.{greatest_is, Each-last}

-- no other of a list is greater than its greatest
pub greatest_ge : (xs : List ℕ) (d e : ℕ) → greatest xs ≡ Some d → has e xs ≡ true → e ≤ d
greatest_ge [] d e is on = absurd (cc)
greatest_ge (x ∷ xs) d e is on = by_rest (greatest xs) refl (λ y z f h. greatest_ge xs y z f h) (λ f h. nothing xs f h)
  where
    nothing : (ys : List ℕ) → greatest ys ≡ None → has e ys ≡ true → ⊥
    nothing [] f h = cc
    nothing (y ∷ ys) f h = some_greater y (greatest ys) f

    by_rest : (o : Option ℕ) → greatest xs ≡ o → ((y z : ℕ) → greatest xs ≡ Some y → has z xs ≡ true → z ≤ y) → (greatest xs ≡ None → has e xs ≡ true → ⊥) → e ≤ d
    by_rest None f below none =
        let same : x ≡ d = (let g : Some x ≡ Some d = sym (ap (greater x) f) ∙ is in cc) in
        ⊎_elim (λ h. omega arith) (λ rest. absurd (none f rest.1)) (has_cases e x xs on)
    by_rest (Some y) f below none = by_lt (nat_lt y x) refl
      where
        by_lt : (b : Bool) → nat_lt y x ≡ b → e ≤ d
        by_lt true u =
            let same : x ≡ d = (let g : Some x ≡ Some d = sym (ap (greater x) f ∙ ap (λ b. if b then Some x else Some y) u) ∙ is in cc) in
            let low = ltb-true y x u in
            ⊎_elim (λ h. omega arith) (λ rest. let le = below y e f rest.1 in omega arith) (has_cases e x xs on)
        by_lt false u =
            let same : y ≡ d = (let g : Some y ≡ Some d = sym (ap (greater x) f ∙ ap (λ b. if b then Some x else Some y) u) ∙ is in cc) in
            let low = ltb-false y x u in
            ⊎_elim (λ h. omega arith) (λ rest. let le = below y e f rest.1 in omega arith) (has_cases e x xs on)

-- the greatest of a list
pub greatest_of : (xs : List ℕ) (d : ℕ) → has d xs ≡ true → ((e : ℕ) → has e xs ≡ true → e ≤ d) → greatest xs ≡ Some d
greatest_of xs d on high = by_greatest (greatest xs) refl
  where
    nothing : (ys : List ℕ) → greatest ys ≡ None → has d ys ≡ true → ⊥
    nothing [] f h = cc
    nothing (y ∷ ys) f h = some_greater y (greatest ys) f

    by_greatest : (o : Option ℕ) → greatest xs ≡ o → greatest xs ≡ Some d
    by_greatest None is = absurd (nothing xs is on)
    by_greatest (Some x) is =
        let le = high x (greatest_is xs x is) in
        let ge = greatest_ge xs x d is on in
        let same : x ≡ d = omega arith in
        is ∙ ap Some same

-- what stands between v and b on the path of last alternatives
pub record OnLast (t : Shape) (k : ℕ) (v : List ℕ) (b : ℕ) : Type 0 where
  pub part : List ℕ
  -- b goes on from there
  pub on : goes_on_to t (v ++ part) b ≡ true
  -- nothing later goes on from a beginning of it that has v
  pub last : (j d : ℕ) → length v ≤ j → goes_on_to t (take j (v ++ part)) d ≡ true → d ≤ b
  -- it is itself on that path
  pub within : (c : ℕ) → has c part ≡ true → has c (last_path k t v) ≡ true

take_front : (xs ys : List ℕ) → take (length xs) (xs ++ ys) ≡ xs
take_front [] [] = refl
take_front [] (y ∷ ys) = refl
take_front (x ∷ xs) ys = ap (λ zs. x ∷ zs) (take_front xs ys)

-- what holds of each holds of each of the first
pub Each-front : (P : ℕ → Type 0) (xs ys : List ℕ) → Each P (xs ++ ys) → Each P xs
Each-front P [] ys h = tt
Each-front P (x ∷ xs) ys h = (h.0, Each-front P xs ys h.1)

-- the greatest next step itself
next_on_last : (t : Shape) (k : ℕ) (v : List ℕ) (b d : ℕ) → greatest (next_steps t v) ≡ Some d → b ≡ d → OnLast t (suc k) v b
next_on_last t k v b d is same =
    let whole : v ++ [] ≡ v = append-nil v in
    record {
      part = [];
      on = ap (λ u. goes_on_to t u b) whole ∙ ap (goes_on_to t v) same ∙ greatest_is (next_steps t v) d is;
      last = λ j e le on.
          let here : goes_on_to t v e ≡ true = sym (ap (λ u. goes_on_to t u e) (ap (take j) whole ∙ take_whole v j le)) ∙ on in
          let ge = greatest_ge (next_steps t v) d e is here in
          omega arith;
      within = λ c on. absurd (cc);
    }

-- a step behind it
later_on_last : (t : Shape) (k : ℕ) (v : List ℕ) (b d : ℕ) → Each IsRising t.paths → greatest (next_steps t v) ≡ Some d → OnLast t k (v ++ d ∷ []) b → OnLast t (suc k) v b
later_on_last t k v b d rise is rest =
    let part = rest.part in
    let whole : v ++ d ∷ part ≡ (v ++ d ∷ []) ++ part = sym (append_assoc v (d ∷ []) part) in
    let along = goes_along t ((v ++ d ∷ []) ++ part) b rest.on in
    let above = onward_above ((v ++ d ∷ []) ++ part) along.0 b (Each-among IsRising t.paths along.0 rise along.1) along.2 in
    let up : d < b = Each-last (λ x. x < b) v d (Each-front (λ x. x < b) (v ++ d ∷ []) part above) in
    let path : last_path (suc k) t v ≡ d ∷ last_path k t (v ++ d ∷ []) = ap (with_rest (λ d. last_path k t (v ++ d ∷ []))) is in
    record {
      part = d ∷ part;
      on = ap (λ u. goes_on_to t u b) whole ∙ rest.on;
      last = λ j e le on.
          ⊎_elim
          (λ more. rest.last j e (let f = length-append v (d ∷ []) in omega arith) (sym (ap (λ u. goes_on_to t (take j u) e) whole) ∙ on))
          (λ same.
          let at : j ≡ length v = omega arith in
          let here : goes_on_to t v e ≡ true = sym (ap (λ u. goes_on_to t u e) (ap (λ i. take i (v ++ d ∷ part)) at ∙ take_front v (d ∷ part))) ∙ on in
          let ge = greatest_ge (next_steps t v) d e is here in
          omega arith)
          (cases_lt (length v) j);
      within = λ c on.
          ap (has c) path
          ∙ ⊎_elim (λ e. has_here c d (last_path k t (v ++ d ∷ [])) e) (λ r. has_there c d (last_path k t (v ++ d ∷ [])) (rest.within c r.1)) (has_cases c d part on);
    }

-- a step of the path of last alternatives
pub on_last : (t : Shape) (k : ℕ) (v : List ℕ) (b : ℕ) → Each IsRising t.paths → has b (last_path k t v) ≡ true → OnLast t k v b
on_last t zero v b rise on = absurd (cc)
on_last t (suc k) v b rise on = by_next (greatest (next_steps t v)) refl (λ d h. on_last t k (v ++ d ∷ []) b rise h)
  where
    by_next : (o : Option ℕ) → greatest (next_steps t v) ≡ o → ((d : ℕ) → has b (last_path k t (v ++ d ∷ [])) ≡ true → OnLast t k (v ++ d ∷ []) b) → OnLast t (suc k) v b
    by_next None is rest = let none = sym (ap (λ o. has b (with_rest (λ d. last_path k t (v ++ d ∷ [])) o)) is) ∙ on in absurd (cc)
    by_next (Some d) is rest =
        ⊎_elim
        (λ same. next_on_last t k v b d is same)
        (λ later. later_on_last t k v b d rise is (rest d later.1))
        (has_cases b d (last_path k t (v ++ d ∷ [])) (sym (ap (λ o. has b (with_rest (λ d. last_path k t (v ++ d ∷ [])) o)) is) ∙ on))

-- such a step has no way on, where all of v is fixed
pub no_way_on : (t : Shape) (k : ℕ) (v : List ℕ) (b : ℕ) (l : OnLast t k v b) → length v ≤ fixed_len t (v ++ l.part) → fallback_of t (v ++ l.part) b ≡ None
no_way_on t k v b l fixed = by_way (fallback_of t (v ++ l.part) b) refl
  where
    by_way : (o : Option ℕ) → fallback_of t (v ++ l.part) b ≡ o → fallback_of t (v ++ l.part) b ≡ None
    by_way None is = is
    by_way (Some d) is =
        let w = v ++ l.part in
        let f = fixed_len t w in
        let on = (least_is (filter (λ d. nat_lt b d) (flat_map (next_steps t) (kept_prefixes t w))) d is).0 in
        let passed = in_filter b d (flat_map (next_steps t) (kept_prefixes t w)) on in
        let prefix = in_flat (next_steps t) (λ k. take k w) d (numbers_from f (length w - f + 1)) passed.0 in
        let between = numbers_between prefix.0 f (length w - f + 1) prefix.1 in
        let le = l.last prefix.0 d (omega arith) prefix.2 in
        let lt : b < d = passed.1 in
        absurd (omega arith)
