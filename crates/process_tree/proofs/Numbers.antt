-- What stands in a list of numbers, and the least of it.
use Rattle.std.proofs.Common.{◌≡◌, ◌⊎◌, inl, inr, ⊎_elim, subst, ℕ, ◌+◌, ◌<◌, ◌≤◌, zero, suc, Bool, true, false, List, [], ◌∷◌, ◌++◌, map, filter, flat_map, cond, Option, Some, None, refl, sym, ap, ◌∙◌, arith, nat_lt, if◌then◌else◌}
use Rattle.std.proofs.lemmas.Bool.{ltb-true, ltb-false, cases_eq}
use Rattle.process_tree.specs.Blocks.{numbers_from}
use Rattle.process_tree.specs.Order.{has}
use Rattle.process_tree.specs.Shape.{least, lesser, greater}
use Rattle.process_tree.proofs.Branches.{has_cases, has_here, has_there}

-- numbers in a row
pub numbers_has : (k n m : ℕ) → n ≤ k → k < n + m → has k (numbers_from n m) ≡ true
numbers_has k n zero from to = absurd (omega arith)
numbers_has k n (suc m) from to =
    ⊎_elim (λ e. has_here k n (numbers_from (n + 1) m) e) (λ apart. has_there k n (numbers_from (n + 1) m) (numbers_has k (n + 1) m (omega arith) (omega arith))) (cases_eq k n)

pub numbers_between : (k n m : ℕ) → has k (numbers_from n m) ≡ true → (n ≤ k) × (k < n + m)
numbers_between k n zero on = absurd (cc)
numbers_between k n (suc m) on =
    ⊎_elim (λ e. (omega arith, omega arith)) (λ rest. let b = numbers_between k (n + 1) m rest.1 in (omega arith, omega arith)) (has_cases k n (numbers_from (n + 1) m) on)

-- what stands in one of two lists
has_append : (d : ℕ) (xs ys : List ℕ) → has d (xs ++ ys) ≡ true → (has d xs ≡ true) ⊎ (has d ys ≡ true)
has_append d [] ys on = inr on
has_append d (x ∷ xs) ys on =
    ⊎_elim
    (λ e. inl (has_here d x xs e))
    (λ rest. ⊎_elim (λ l. inl (has_there d x xs l)) (λ r. inr r) (has_append d xs ys rest.1))
    (has_cases d x (xs ++ ys) on)

pub has_left : (d : ℕ) (xs ys : List ℕ) → has d xs ≡ true → has d (xs ++ ys) ≡ true
has_left d [] ys on = absurd (cc)
has_left d (x ∷ xs) ys on =
    ⊎_elim (λ e. has_here d x (xs ++ ys) e) (λ rest. has_there d x (xs ++ ys) (has_left d xs ys rest.1)) (has_cases d x xs on)

pub has_right : (d : ℕ) (xs ys : List ℕ) → has d ys ≡ true → has d (xs ++ ys) ≡ true
has_right d [] ys on = on
has_right d (x ∷ xs) ys on = has_there d x (xs ++ ys) (has_right d xs ys on)

-- one of these gives it
pub in_flat : (g : List ℕ → List ℕ) (h : ℕ → List ℕ) (d : ℕ) (ks : List ℕ) → has d (flat_map g (map h ks)) ≡ true → (k : ℕ) × (has k ks ≡ true) × (has d (g (h k)) ≡ true)
in_flat g h d [] on = absurd (cc)
in_flat g h d (k ∷ ks) on =
    ⊎_elim
    (λ here. (k, has_here k k ks refl, here))
    (λ later. let rest = in_flat g h d ks later in (rest.0, has_there rest.0 k ks rest.1, rest.2))
    (has_append d (g (h k)) (flat_map g (map h ks)) on)

pub to_flat : (g : List ℕ → List ℕ) (h : ℕ → List ℕ) (d k : ℕ) (ks : List ℕ) → has k ks ≡ true → has d (g (h k)) ≡ true → has d (flat_map g (map h ks)) ≡ true
to_flat g h d k [] inks on = absurd (cc)
to_flat g h d k (j ∷ ks) inks on =
    ⊎_elim
    (λ e. has_left d (g (h j)) (flat_map g (map h ks)) (subst (λ i. has d (g (h i)) ≡ true) e on))
    (λ rest. has_right d (g (h j)) (flat_map g (map h ks)) (to_flat g h d k ks rest.1 on))
    (has_cases k j ks inks)

-- what passes a test
pub in_filter : (b d : ℕ) (xs : List ℕ) → has d (filter (λ e. nat_lt b e) xs) ≡ true → (has d xs ≡ true) × (b < d)
in_filter b d [] on = absurd (cc)
in_filter b d (x ∷ xs) on = by_test (nat_lt b x) refl (λ h. in_filter b d xs h)
  where
    by_test : (t : Bool) → nat_lt b x ≡ t → (has d (filter (λ e. nat_lt b e) xs) ≡ true → (has d xs ≡ true) × (b < d)) → (has d (x ∷ xs) ≡ true) × (b < d)
    by_test true is below =
        ⊎_elim
        (λ e. (has_here d x xs e, let lt = ltb-true b x is in omega arith))
        (λ rest. let r = below rest.1 in (has_there d x xs r.0, r.1))
        (has_cases d x (filter (λ e. nat_lt b e) xs) (sym (ap (λ t. has d (cond t (x ∷ filter (λ e. nat_lt b e) xs) (filter (λ e. nat_lt b e) xs))) is) ∙ on))
    by_test false is below =
        let r = below (sym (ap (λ t. has d (cond t (x ∷ filter (λ e. nat_lt b e) xs) (filter (λ e. nat_lt b e) xs))) is) ∙ on) in
        (has_there d x xs r.0, r.1)

pub to_filter : (b d : ℕ) (xs : List ℕ) → has d xs ≡ true → b < d → has d (filter (λ e. nat_lt b e) xs) ≡ true
to_filter b d [] on lt = absurd (cc)
to_filter b d (x ∷ xs) on lt = by_test (nat_lt b x) refl (λ h. to_filter b d xs h lt)
  where
    kept : List ℕ
    kept = filter (λ e. nat_lt b e) xs

    by_test : (t : Bool) → nat_lt b x ≡ t → (has d xs ≡ true → has d (filter (λ e. nat_lt b e) xs) ≡ true) → has d (filter (λ e. nat_lt b e) (x ∷ xs)) ≡ true
    by_test true is below =
        ap (λ t. has d (cond t (x ∷ filter (λ e. nat_lt b e) xs) (filter (λ e. nat_lt b e) xs))) is
        ∙ ⊎_elim (λ e. has_here d x (filter (λ e. nat_lt b e) xs) e) (λ rest. has_there d x (filter (λ e. nat_lt b e) xs) (below rest.1)) (has_cases d x xs on)
    by_test false is below =
        ap (λ t. has d (cond t (x ∷ filter (λ e. nat_lt b e) xs) (filter (λ e. nat_lt b e) xs))) is
        ∙ ⊎_elim (λ e. let le = ltb-false b x is in absurd (omega arith)) (λ rest. below rest.1) (has_cases d x xs on)

-- the least of a list is on it, and no greater than another
pub least_is : (xs : List ℕ) (d : ℕ) → least xs ≡ Some d → (has d xs ≡ true) × ((e : ℕ) → has e xs ≡ true → d ≤ e)
least_is [] d is = absurd (cc)
least_is (x ∷ xs) d is = by_rest (least xs) refl (λ y e. least_is xs y e)
  where
    nothing : (ys : List ℕ) (e : ℕ) → least ys ≡ None → has e ys ≡ true → ⊥
    nothing [] e none on = cc
    nothing (y ∷ ys) e none on = by_tail (least ys) refl
      where
        by_tail : (o : Option ℕ) → least ys ≡ o → ⊥
        by_tail None f = let g : Some y ≡ None = sym (ap (lesser y) f) ∙ none in cc
        by_tail (Some z) f = by_lt (nat_lt y z) refl
          where
            by_lt : (t : Bool) → nat_lt y z ≡ t → ⊥
            by_lt true u = let g : Some y ≡ None = sym (ap (lesser y) f ∙ ap (λ t. if t then Some y else Some z) u) ∙ none in cc
            by_lt false u = let g : Some z ≡ None = sym (ap (lesser y) f ∙ ap (λ t. if t then Some y else Some z) u) ∙ none in cc

    by_rest : (o : Option ℕ) → least xs ≡ o → ((y : ℕ) → least xs ≡ Some y → (has y xs ≡ true) × ((e : ℕ) → has e xs ≡ true → y ≤ e)) → (has d (x ∷ xs) ≡ true) × ((e : ℕ) → has e (x ∷ xs) ≡ true → d ≤ e)
    by_rest None f below =
        let same : x ≡ d = (let g : Some x ≡ Some d = sym (ap (lesser x) f) ∙ is in cc) in
        (has_here d x xs (sym same), λ e on. ⊎_elim (λ h. omega arith) (λ rest. absurd (nothing xs e f rest.1)) (has_cases e x xs on))
    by_rest (Some y) f below = by_lt (nat_lt x y) refl
      where
        by_lt : (t : Bool) → nat_lt x y ≡ t → (has d (x ∷ xs) ≡ true) × ((e : ℕ) → has e (x ∷ xs) ≡ true → d ≤ e)
        by_lt true u =
            let same : x ≡ d = (let g : Some x ≡ Some d = sym (ap (lesser x) f ∙ ap (λ t. if t then Some x else Some y) u) ∙ is in cc) in
            let low = ltb-true x y u in
            let b = below y f in
            (has_here d x xs (sym same), λ e on. ⊎_elim (λ h. omega arith) (λ rest. let le = b.1 e rest.1 in omega arith) (has_cases e x xs on))
        by_lt false u =
            let same : y ≡ d = (let g : Some y ≡ Some d = sym (ap (lesser x) f ∙ ap (λ t. if t then Some x else Some y) u) ∙ is in cc) in
            let low = ltb-false x y u in
            let b = below y f in
            (has_there d x xs (subst (λ z. has z xs ≡ true) same b.0), λ e on. ⊎_elim (λ h. omega arith) (λ rest. let le = b.1 e rest.1 in omega arith) (has_cases e x xs on))

-- a list with something on it has a least
pub least_some : (x : ℕ) (xs : List ℕ) → (d : ℕ) × (least (x ∷ xs) ≡ Some d)
least_some x xs = by_rest (least xs) refl
  where
    by_rest : (o : Option ℕ) → least xs ≡ o → (d : ℕ) × (least (x ∷ xs) ≡ Some d)
    by_rest None f = (x, ap (lesser x) f)
    by_rest (Some y) f = by_lt (nat_lt x y) refl
      where
        by_lt : (t : Bool) → nat_lt x y ≡ t → (d : ℕ) × (least (x ∷ xs) ≡ Some d)
        by_lt true u = (x, ap (lesser x) f ∙ ap (λ t. if t then Some x else Some y) u)
        by_lt false u = (y, ap (lesser x) f ∙ ap (λ t. if t then Some x else Some y) u)

-- lists with the same numbers on them have one least
pub least_same : (xs ys : List ℕ) → ((e : ℕ) → has e xs ≡ true → has e ys ≡ true) → ((e : ℕ) → has e ys ≡ true → has e xs ≡ true) → least xs ≡ least ys
least_same [] [] to back = refl
least_same [] (y ∷ ys) to back = let on = back y (has_here y y ys refl) in absurd (cc)
least_same (x ∷ xs) [] to back = let on = to x (has_here x x xs refl) in absurd (cc)
least_same (x ∷ xs) (y ∷ ys) to back =
    let a = least_some x xs in
    let b = least_some y ys in
    let p = least_is (x ∷ xs) a.0 a.1 in
    let q = least_is (y ∷ ys) b.0 b.1 in
    let le = p.1 b.0 (back b.0 q.0) in
    let ge = q.1 a.0 (to a.0 p.0) in
    let same : a.0 ≡ b.0 = omega arith in
    a.1 ∙ ap Some same ∙ sym b.1

-- the greater of two is there
pub some_greater : (y : ℕ) (o : Option ℕ) → greater y o ≡ None → ⊥
some_greater y None f = cc
some_greater y (Some z) f = by_lt (nat_lt z y) f
  where
    by_lt : (t : Bool) → (if t then Some y else Some z) ≡ None → ⊥
    by_lt true f = cc
    by_lt false f = cc
