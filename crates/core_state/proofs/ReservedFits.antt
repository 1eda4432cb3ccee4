-- What a process owes and what a new commit point will make it owe have no step in common, so there is room for both.
use Rattle.std.proofs.Common.{◌≡◌, ◌⊎◌, inl, inr, ⊎_elim, ℕ, zero, suc, ◌+◌, ◌≤◌, ◌<◌, Bool, true, false, eqb, ◌||◌, if◌then◌else◌, List, [], ◌∷◌, ◌++◌, length, take, Option, Some, None, sym, refl, ap, ◌∙◌, length-append, arith}
use Rattle.std.specs.List.{AllByRecursion, IsDistinct}
use Rattle.std.proofs.lemmas.Bool.{both_ways, eq-eqb, eqb-true, false≢true, or_left, or_right}
use Rattle.std.proofs.lemmas.List.Folds.{list_any-append}
use Rattle.std.proofs.lemmas.Map.Steps.{length-le_from_distinct_below}
use Rattle.process_tree.specs.Order.{Each, IsLaidOut, IsRising, has}
use Rattle.process_tree.specs.Recovery.{forward}
use Rattle.process_tree.specs.Shape.{Shape, fixed_len, greatest, next_steps, last_after, last_path, with_rest}
use Rattle.process_tree.proofs.Branches.{Each-among, Each-has}
use Rattle.process_tree.proofs.LastPath.{on_last}
use Rattle.process_tree.proofs.Every.{Each-append}
use Rattle.process_tree.proofs.Onward.{branch_from, goes_along, onward_above}
use Rattle.core_state.proofs.LastSteps.{last_few, last_within}

either : (a b : Bool) → (a || b) ≡ true → (a ≡ true) ⊎ (b ≡ true)
either true b is = inl refl
either false b is = inr is

has_either : (x : ℕ) (xs ys : List ℕ) → has x (xs ++ ys) ≡ true → (has x xs ≡ true) ⊎ (has x ys ≡ true)
has_either x xs ys is = either (has x xs) (has x ys) (sym (list_any-append (eqb x) xs ys) ∙ is)

-- numbers that aren't on a list differ from each of it
apart_each : (x : ℕ) (xs : List ℕ) → has x xs ≡ false → AllByRecursion (λ y. eqb x y ≡ false) xs
apart_each x [] none = tt
apart_each x (y ∷ ys) none = by_first (eqb x y) refl (apart_each x ys)
  where
    by_first : (t : Bool) → eqb x y ≡ t → (has x ys ≡ false → AllByRecursion (λ z. eqb x z ≡ false) ys) → AllByRecursion (λ z. eqb x z ≡ false) (y ∷ ys)
    by_first true is later = absurd (false≢true (sym none ∙ ap (λ t. t || has x ys) is))
    by_first false is later = (is, later (sym (ap (λ t. t || has x ys) is) ∙ none))

distinct_more : (x : ℕ) (xs : List ℕ) → has x xs ≡ false → IsDistinct eqb xs → IsDistinct eqb (x ∷ xs)
unfolding IsDistinct
distinct_more x xs none once = (apart_each x xs none, once)

distinct_rest : (x : ℕ) (xs : List ℕ) → IsDistinct eqb (x ∷ xs) → IsDistinct eqb xs
unfolding IsDistinct
distinct_rest x xs once = once.1

distinct_none : IsDistinct {K = ℕ} eqb []
unfolding IsDistinct
distinct_none = tt

-- not, where it can't be
not_if : (t : Bool) → (t ≡ true → ⊥) → t ≡ false
not_if false none = refl
not_if true none = absurd (none refl)

-- the first of distinct numbers isn't among the others
first_apart : (x y : ℕ) (xs : List ℕ) → AllByRecursion (λ z. eqb x z ≡ false) xs → has y xs ≡ true → eqb x y ≡ false
first_apart x y [] each among = absurd (false≢true among)
first_apart x y (z ∷ zs) each among = ⊎_elim (λ here. ap (eqb x) (eqb-true y z here) ∙ each.0) (λ later. first_apart x y zs each.1 later) (either (eqb y z) (has y zs) among)

distinct_first : (x : ℕ) (xs : List ℕ) → IsDistinct eqb (x ∷ xs) → has x xs ≡ false
unfolding IsDistinct
distinct_first x xs once = not_if (has x xs) (λ among. both_ways (eqb x x) (first_apart x x xs once.0 among) (eq-eqb x x refl))

distinct_append : (xs ys : List ℕ) → IsDistinct eqb xs → IsDistinct eqb ys → ((x : ℕ) → has x xs ≡ true → has x ys ≡ true → ⊥) → IsDistinct eqb (xs ++ ys)
distinct_append [] ys left right apart = right
distinct_append (x ∷ xs) ys left right apart = distinct_more x (xs ++ ys)
    (not_if (has x (xs ++ ys)) (λ among. ⊎_elim
    (λ own. both_ways (has x xs) (distinct_first x xs left) own)
    (λ other. apart x (or_left (eqb x x) (has x xs) (eq-eqb x x refl)) other)
    (has_either x xs ys among)))
    (distinct_append xs ys (distinct_rest x xs left) right (λ z is other. apart z (or_right (eqb z x) (has z xs) is) other))

module _ (t : Shape) (laid : IsLaidOut (length t.kinds) t.paths) where
  -- no step stands twice on the path of last alternatives
  last_once : (k : ℕ) (v : List ℕ) → IsDistinct eqb (last_path k t v)
  last_once zero v = distinct_none
  last_once (suc k) v = by_next (greatest (next_steps t v)) (λ d. last_once k (v ++ d ∷ []))
    where
      not_again : (d : ℕ) → has d (last_path k t (v ++ d ∷ [])) ≡ true → ⊥
      not_again d among =
          let l = on_last t k (v ++ d ∷ []) d laid.rising among in
          let u = (v ++ d ∷ []) ++ l.part in
          let along = goes_along t u d l.on in
          let below = onward_above u along.0 d (Each-among IsRising t.paths along.0 laid.rising along.1) along.2 in
          let here : has d u ≡ true = list_any-append (eqb d) (v ++ d ∷ []) l.part ∙ or_left (has d (v ++ d ∷ [])) (has d l.part)
          (list_any-append (eqb d) v (d ∷ []) ∙ or_right (has d v) (eqb d d || false) (or_left (eqb d d) false (eq-eqb d d refl))) in
          let less = Each-has (λ b. b < d) u d below here in
          omega arith

      by_next : (o : Option ℕ) → ((d : ℕ) → IsDistinct eqb (last_path k t (v ++ d ∷ []))) → IsDistinct eqb (with_rest (λ d. last_path k t (v ++ d ∷ [])) o)
      by_next None rest = distinct_none
      by_next (Some d) rest = distinct_more d (last_path k t (v ++ d ∷ [])) (not_if (has d (last_path k t (v ++ d ∷ []))) (not_again d)) (rest d)

  module _ (w : List ℕ) (b : ℕ) (new : has b w ≡ false) (free : has b (forward t w) ≡ false) where
    abbrev f : ℕ
    f = fixed_len t w

    has_take : (n : ℕ) (xs : List ℕ) → has b (take n xs) ≡ true → has b xs ≡ true
    has_take zero xs is = absurd (false≢true is)
    has_take (suc n) [] is = absurd (false≢true is)
    has_take (suc n) (x ∷ xs) is = ⊎_elim (λ here. or_left (eqb b x) (has b xs) here) (λ later. or_right (eqb b x) (has b xs) (has_take n xs later)) (either (eqb b x) (has b (take n xs)) is)

    -- no step is owed now and behind b
    owed_apart : has b (last_after t (take f w)) ≡ false → (x : ℕ) → has x (last_after t (take f w)) ≡ true → has x (last_after t (w ++ b ∷ [])) ≡ true → ⊥
    owed_apart other x now behind =
        let l = on_last t (length t.kinds) (take f w) x laid.rising now in
        let r = on_last t (length t.kinds) (w ++ b ∷ []) x laid.rising behind in
        let same : take f w ++ l.part ≡ (w ++ b ∷ []) ++ r.part = sym (branch_from t (take f w ++ l.part) x laid.in_order laid.rising l.on) ∙ branch_from t ((w ++ b ∷ []) ++ r.part) x laid.in_order laid.rising r.on in
        let on : has b ((w ++ b ∷ []) ++ r.part) ≡ true = list_any-append (eqb b) (w ++ b ∷ []) r.part ∙ or_left (has b (w ++ b ∷ [])) (has b r.part)
        (list_any-append (eqb b) w (b ∷ []) ∙ or_right (has b w) (eqb b b || false) (or_left (eqb b b) false (eq-eqb b b refl))) in
        ⊎_elim
        (λ before. both_ways (has b w) new (has_take f w before))
        (λ later. both_ways (has b (last_after t (take f w))) other (l.within b later))
        (has_either b (take f w) l.part (ap (has b) same ∙ on))

    many_of : (xs ys : List ℕ) → IsDistinct eqb xs → IsDistinct eqb ys → ((x : ℕ) → has x xs ≡ true → has x ys ≡ true → ⊥) → Each (λ x. x < length t.kinds) xs → Each (λ x. x < length t.kinds) ys
        → length xs + length ys ≤ length t.kinds
    many_of xs ys left right apart within beyond =
        let all = length-le_from_distinct_below (xs ++ ys) (length t.kinds) (distinct_append xs ys left right apart)
        (λ q is. Each-has (λ x. x < length t.kinds) (xs ++ ys) q (Each-append (λ x. x < length t.kinds) xs ys within beyond) is) in
        let sum = length-append xs ys in
        omega arith

    -- there is room for both
    pub owed_fits : length (forward t w) + length (last_after t (w ++ b ∷ [])) ≤ length t.kinds
    owed_fits = by_fixed (eqb f 0) refl
      where
        by_fixed : (c : Bool) → eqb f 0 ≡ c → length (forward t w) + length (last_after t (w ++ b ∷ [])) ≤ length t.kinds
        by_fixed true is = let none = ap (λ c. length (if c then [] else last_after t (take f w))) is in let few = last_few t (length t.kinds) (w ++ b ∷ []) in omega arith
        by_fixed false is =
            let some : forward t w ≡ last_after t (take f w) = ap (λ c. if c then [] else last_after t (take f w)) is in
            let other = sym (ap (has b) some) ∙ free in
            let many = many_of (last_after t (take f w)) (last_after t (w ++ b ∷ [])) (last_once (length t.kinds) (take f w)) (last_once (length t.kinds) (w ++ b ∷ [])) (owed_apart other)
            (last_within t (length t.kinds) (length t.kinds) (take f w) laid.within) (last_within t (length t.kinds) (length t.kinds) (w ++ b ∷ []) laid.within) in
            let same = ap length some in
            omega arith
