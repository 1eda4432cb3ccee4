-- Entries as they are printed, and where a list isn't printed so.
use Rattle.std.proofs.Common.{◌≡◌, ℕ, zero, suc, ◌+◌, ◌-◌, ◌<◌, ◌≤◌, Bool, true, false, cond, ◌&&◌, ◌||◌, List, [], ◌∷◌, length, map, take, get_or, nat_eq, Some, None, sym, refl, ap, ◌∙◌, subst, arith, add-one}
use Rattle.std.proofs.lemmas.Bool.{and_parts, and_from, eq-eqb, eqb-true}
use Rattle.process_tree.specs.declared.entry.Entry.{Entry}
use Rattle.process_tree.specs.Order.{Each}
use Rattle.process_tree.specs.Making.{same_text}
use Rattle.process_text.proofs.NumberWords.{are_same-refl}
use Rattle.trace_verify.specs.Forms.{NamedAct}
use Rattle.trace_verify.specs.Names.{is_among, number_among, is_named}
use Rattle.trace_verify.specs.Verdicts.{same_way, is_printed, differs_from}
use Rattle.trace_verify.specs.Laws.{printed_by}
use Rattle.trace_verify.proofs.Naming.{same}

same_way-same : (a b : Bool) → same_way a b ≡ true → a ≡ b
same_way-same true true e = refl
same_way-same true false e = absurd (cc)
same_way-same false true e = absurd (cc)
same_way-same false false e = refl

same_way-refl : (a : Bool) → same_way a a ≡ true
same_way-refl true = refl
same_way-refl false = refl

pub named-read : (names : List (List ℕ)) (k : ℕ) (w : List ℕ) → is_named names k w ≡ true → get_or names k [] ≡ w
named-read [] k w e = absurd (cc)
named-read (n ∷ names) zero w e = sym (same w n e)
named-read (n ∷ names) (suc k) w e = named-read names k w e

named-itself : (names : List (List ℕ)) (k : ℕ) → k < length names → is_named names k (get_or names k []) ≡ true
named-itself [] k less = absurd (omega arith)
named-itself (n ∷ names) zero less = are_same-refl n
named-itself (n ∷ names) (suc k) less = named-itself names k (omega arith)

-- a name has its number
pub named-number : (names : List (List ℕ)) (w : List ℕ) → is_among names w ≡ true → is_named names (number_among names w) w ≡ true
named-number [] w there = absurd (cc)
named-number (n ∷ names) w there = by (same_text w n) refl (named-number names w) there
  where
    by : (b : Bool) → same_text w n ≡ b → (is_among names w ≡ true → is_named names (number_among names w) w ≡ true) → (b || is_among names w) ≡ true
        → is_named (n ∷ names) (cond b 0 (number_among names w + 1)) w ≡ true
    by true is rest f = is
    by false is rest f = ap (λ k. is_named (n ∷ names) k w) (add-one (number_among names w)) ∙ rest f

-- place n, counted from k, is the first at which two lists differ
pub record FirstOther (k : ℕ) (xs ys : List NamedAct) (n : ℕ) : Type 0 where
  pub least : k ≤ n
  pub before : take (n - k) xs ≡ take (n - k) ys
  pub other : ¬ (take (suc (n - k)) xs ≡ take (suc (n - k)) ys)

take_none : (xs : List NamedAct) → take 0 xs ≡ []
take_none [] = refl
take_none (x ∷ xs) = refl

other-here : (k : ℕ) (xs ys : List NamedAct) (n : ℕ) → k ≡ n → ¬ (take 1 xs ≡ take 1 ys) → FirstOther k xs ys n
other-here k xs ys n is differ =
    let none : n - k ≡ 0 = omega arith in
    record {
      least = omega arith;
      before = ap (λ m. take m xs) none ∙ (take_none xs ∙ (sym (take_none ys) ∙ sym (ap (λ m. take m ys) none)));
      other = λ e. differ (sym (ap (λ m. take (suc m) xs) none) ∙ (e ∙ ap (λ m. take (suc m) ys) none));
    }

other-later : (k : ℕ) (x y : NamedAct) (xs ys : List NamedAct) (n : ℕ) → x ≡ y → FirstOther (k + 1) xs ys n → FirstOther k (x ∷ xs) (y ∷ ys) n
other-later k x y xs ys n is later =
    let more : n - k ≡ suc (n - (k + 1)) = omega (arith, later.least) in
    record {
      least = omega (arith, later.least);
      before = ap (λ m. take m (x ∷ xs)) more ∙ (ap (λ zs. x ∷ zs) later.before ∙ (ap (λ z. z ∷ take (n - (k + 1)) ys) is ∙ sym (ap (λ m. take m (y ∷ ys)) more)));
      other = λ e. later.other (
          let both : x ∷ take (suc (n - (k + 1))) xs ≡ y ∷ take (suc (n - (k + 1))) ys = sym (ap (λ m. take (suc m) (x ∷ xs)) more) ∙ (e ∙ ap (λ m. take (suc m) (y ∷ ys)) more) in cc);
    }

module _ (steps ops : List (List ℕ)) where
  -- an entry that is printed so is what is printed
  printed-same : (e : Entry) (a : NamedAct) → is_printed steps ops e a ≡ true → printed_by steps ops e ≡ a
  printed-same e a is =
      let made : ℕ → List ℕ → List ℕ → ℕ → Bool → NamedAct = λ p s o k u. record { process = p; step = s; op = o; key = k; undo = u } in
      let keyed = and_parts (nat_eq e.process a.process && is_named steps e.step a.step && is_named ops e.op a.op && nat_eq e.key a.key) (same_way e.undo a.undo) is in
      let outer = and_parts (nat_eq e.process a.process && is_named steps e.step a.step && is_named ops e.op a.op) (nat_eq e.key a.key) keyed.0 in
      let middle = and_parts (nat_eq e.process a.process && is_named steps e.step a.step) (is_named ops e.op a.op) outer.0 in
      let inner = and_parts (nat_eq e.process a.process) (is_named steps e.step a.step) middle.0 in
      ap (λ p. made p (get_or steps e.step []) (get_or ops e.op []) e.key e.undo) (eqb-true e.process a.process inner.0)
      ∙ (ap (λ s. made a.process s (get_or ops e.op []) e.key e.undo) (named-read steps e.step a.step inner.1)
      ∙ (ap (λ o. made a.process a.step o e.key e.undo) (named-read ops e.op a.op middle.1)
      ∙ (ap (λ k. made a.process a.step a.op k e.undo) (eqb-true e.key a.key outer.1)
      ∙ ap (λ u. made a.process a.step a.op a.key u) (same_way-same e.undo a.undo keyed.1))))

  -- and what is printed of it is printed so, where it has numbers of these names
  printed-itself : (e : Entry) → (e.step < length steps) × (e.op < length ops) → is_printed steps ops e (printed_by steps ops e) ≡ true
  printed-itself e numbers =
      and_from (nat_eq e.process e.process && is_named steps e.step (get_or steps e.step []) && is_named ops e.op (get_or ops e.op []) && nat_eq e.key e.key) (same_way e.undo e.undo)
      (and_from (nat_eq e.process e.process && is_named steps e.step (get_or steps e.step []) && is_named ops e.op (get_or ops e.op [])) (nat_eq e.key e.key)
      (and_from (nat_eq e.process e.process && is_named steps e.step (get_or steps e.step [])) (is_named ops e.op (get_or ops e.op []))
      (and_from (nat_eq e.process e.process) (is_named steps e.step (get_or steps e.step [])) (eq-eqb e.process e.process refl) (named-itself steps e.step numbers.0))
      (named-itself ops e.op numbers.1)) (eq-eqb e.key e.key refl)) (same_way-refl e.undo)

  -- where nothing differs, the list is printed so
  pub none-differs : (n : ℕ) (es : List Entry) (acts : List NamedAct) → differs_from steps ops n es acts ≡ None → map (printed_by steps ops) es ≡ acts
  none-differs n [] [] e = refl
  none-differs n [] (a ∷ acts) e = absurd (cc)
  none-differs n (x ∷ es) [] e = absurd (cc)
  none-differs n (x ∷ es) (a ∷ acts) e = by (is_printed steps ops x a) refl (none-differs (n + 1) es acts) e
    where
      by : (b : Bool) → is_printed steps ops x a ≡ b → (differs_from steps ops (n + 1) es acts ≡ None → map (printed_by steps ops) es ≡ acts)
          → cond b (differs_from steps ops (n + 1) es acts) (Some n) ≡ None → printed_by steps ops x ∷ map (printed_by steps ops) es ≡ a ∷ acts
      by true is rest f = ap (λ y. y ∷ map (printed_by steps ops) es) (printed-same x a is) ∙ ap (λ ys. a ∷ ys) (rest f)
      by false is rest f = absurd (cc)

  -- and nothing differs from what is printed of a list
  pub itself-same : (n : ℕ) (es : List Entry) → Each (λ e. (e.step < length steps) × (e.op < length ops)) es → differs_from steps ops n es (map (printed_by steps ops) es) ≡ None
  itself-same n [] are = refl
  itself-same n (e ∷ es) are =
      ap (λ b. cond b (differs_from steps ops (n + 1) es (map (printed_by steps ops) es)) (Some n)) (printed-itself e are.0) ∙ itself-same (n + 1) es are.1

  pub differs-at : (k : ℕ) (es : List Entry) (acts : List NamedAct) (n : ℕ) → Each (λ e. (e.step < length steps) × (e.op < length ops)) es
      → differs_from steps ops k es acts ≡ Some n → FirstOther k (map (printed_by steps ops) es) acts n
  differs-at k [] [] n are e = absurd (cc)
  differs-at k [] (a ∷ acts) n are e = let same_place : k ≡ n = cc in other-here k [] (a ∷ acts) n same_place (λ f. cc)
  differs-at k (x ∷ es) [] n are e = let same_place : k ≡ n = cc in other-here k (printed_by steps ops x ∷ map (printed_by steps ops) es) [] n same_place (λ f. cc)
  differs-at k (x ∷ es) (a ∷ acts) n are e = by (is_printed steps ops x a) refl (differs-at (k + 1) es acts n are.1) e
    where
      by : (b : Bool) → is_printed steps ops x a ≡ b
          → (differs_from steps ops (k + 1) es acts ≡ Some n → FirstOther (k + 1) (map (printed_by steps ops) es) acts n)
          → cond b (differs_from steps ops (k + 1) es acts) (Some k) ≡ Some n → FirstOther k (printed_by steps ops x ∷ map (printed_by steps ops) es) (a ∷ acts) n
      by true is rest f = other-later k (printed_by steps ops x) a (map (printed_by steps ops) es) acts n (printed-same x a is) (rest f)
      by false is rest f =
          let same_place : k ≡ n = cc in
          other-here k (printed_by steps ops x ∷ map (printed_by steps ops) es) (a ∷ acts) n same_place
          (λ g. let alike : printed_by steps ops x ≡ a = cc in
          let so : is_printed steps ops x a ≡ true = subst (λ b. is_printed steps ops x b ≡ true) alike (printed-itself x are.0) in cc)
