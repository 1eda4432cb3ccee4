-- What is among the elements of a list, by recursion on the list.
use Rattle.std.proofs.Common.{◌≡◌, ◌⊎◌, inl, inr, ⊎_elim, ℕ, zero, suc, ◌<◌, Bool, true, false, cond, eqb, ◌||◌, List, [], ◌∷◌, ◌++◌, length, map, filter, sym, refl, ap, ◌∙◌, subst, arith}
use Rattle.std.specs.Prelude.{slice_index_or}
use Rattle.std.specs.Bool.{IsTrue}
use Rattle.std.specs.List.{Contains, flat_map, list_any, list_all}
use Rattle.std.proofs.lemmas.Bool.{and_parts, and_from, or_left, or_right, or_cases, eq-eqb, eqb-true, false≢true}
use Rattle.schedule_model.specs.Histories.{is_in}

-- x is one of these
abbrev pub Among : {X : Type 0} → X → List X → Type 0
Among x [] = ⊥
Among x (y ∷ ys) = (y ≡ x) ⊎ Among x ys

module _ {X : Type 0} where
  pub among-left : (x : X) (xs ys : List X) → Among x xs → Among x (xs ++ ys)
  among-left x [] ys is = absurd is
  among-left x (y ∷ xs) ys (inl here) = inl here
  among-left x (y ∷ xs) ys (inr later) = inr (among-left x xs ys later)

  pub among-right : (x : X) (xs ys : List X) → Among x ys → Among x (xs ++ ys)
  among-right x [] ys is = is
  among-right x (y ∷ xs) ys is = inr (among-right x xs ys is)

  -- one that a list is split at
  pub among_there : (front : List X) (x : X) (rest : List X) → Among x (front ++ x ∷ rest)
  among_there front x rest = among-right x front (x ∷ rest) (inl refl)

  -- one more in the list
  pub among-more : (x : X) (front : List X) (y : X) (rest : List X) → Among x (front ++ rest) → Among x (front ++ y ∷ rest)
  among-more x [] y rest is = inr is
  among-more x (z ∷ front) y rest (inl here) = inl here
  among-more x (z ∷ front) y rest (inr later) = inr (among-more x front y rest later)

  pub among-append : (x : X) (xs ys : List X) → Among x (xs ++ ys) → Among x xs ⊎ Among x ys
  among-append x [] ys is = inr is
  among-append x (y ∷ xs) ys (inl here) = inl (inl here)
  among-append x (y ∷ xs) ys (inr later) = ⊎_elim (λ l. inl (inr l)) (λ r. inr r) (among-append x xs ys later)

  among-filter_step : (p : X → Bool) (x y : X) (ys : List X) (t : Bool) → p y ≡ t → Among x (cond t (y ∷ ys) ys) → ((y ≡ x) × (p x ≡ true)) ⊎ Among x ys
  among-filter_step p x y ys true is (inl here) = inl (here, ap p (sym here) ∙ is)
  among-filter_step p x y ys true is (inr later) = inr later
  among-filter_step p x y ys false is later = inr later

  -- what a filter lets through was there and passes
  pub among-filter : (p : X → Bool) (x : X) (xs : List X) → Among x (filter p xs) → Among x xs × (p x ≡ true)
  among-filter p x [] is = absurd is
  among-filter p x (y ∷ xs) is =
      ⊎_elim (λ here. (inl here.0, here.1)) (λ later. let rest = among-filter p x xs later in (inr rest.0, rest.1))
      (among-filter_step p x y (filter p xs) (p y) refl is)

  in_filter_step : (x y : X) (ys : List X) (t : Bool) → Among x ys → Among x (cond t (y ∷ ys) ys)
  in_filter_step x y ys true is = inr is
  in_filter_step x y ys false is = is

  pub in_filter : (p : X → Bool) (x : X) (xs : List X) → Among x xs → p x ≡ true → Among x (filter p xs)
  in_filter p x [] is passes = absurd is
  in_filter p x (y ∷ xs) (inl here) passes = subst (λ t. Among x (cond t (y ∷ filter p xs) (filter p xs))) (sym (ap p here ∙ passes)) (inl here)
  in_filter p x (y ∷ xs) (inr later) passes = in_filter_step x y (filter p xs) (p y) (in_filter p x xs later passes)

  -- a filter lets nothing through exactly where nothing passes
  pub filter-none : (p : X → Bool) (xs : List X) → ((x : X) → Among x xs → p x ≡ false) → filter p xs ≡ []
  filter-none p [] none = refl
  filter-none p (x ∷ xs) none = ap (λ t. cond t (x ∷ filter p xs) (filter p xs)) (none x (inl refl)) ∙ filter-none p xs (λ y is. none y (inr is))

  cons_none : (x : X) (xs : List X) → x ∷ xs ≡ [] → ⊥
  cons_none x xs e = let l = ap length e in omega arith

  none_step : (p : X → Bool) (y : X) (ys : List X) (t : Bool) → p y ≡ t → cond t (y ∷ ys) ys ≡ [] → (p y ≡ false) × (ys ≡ [])
  none_step p y ys true is none = absurd (cons_none y ys none)
  none_step p y ys false is none = (is, none)

  pub none_pass : (p : X → Bool) (xs : List X) → filter p xs ≡ [] → (x : X) → Among x xs → p x ≡ false
  none_pass p [] none x is = absurd is
  none_pass p (y ∷ xs) none x (inl here) = ap p (sym here) ∙ (none_step p y (filter p xs) (p y) refl none).0
  none_pass p (y ∷ xs) none x (inr later) = none_pass p xs (none_step p y (filter p xs) (p y) refl none).1 x later

  -- filters by tests that agree on what is there
  pub filter-agree : (p q : X → Bool) (xs : List X) → ((x : X) → Among x xs → p x ≡ q x) → filter p xs ≡ filter q xs
  filter-agree p q [] same = refl
  filter-agree p q (x ∷ xs) same =
      ap (λ t. cond t (x ∷ filter p xs) (filter p xs)) (same x (inl refl))
      ∙ ap (λ ys. cond (q x) (x ∷ ys) ys) (filter-agree p q xs (λ y is. same y (inr is)))

  -- two lists one after another have nothing where neither has
  pub append-none : (xs ys : List X) → xs ≡ [] → ys ≡ [] → xs ++ ys ≡ []
  append-none xs ys one two = ap (λ es. es ++ ys) one ∙ two

  pub none-left : (xs ys : List X) → xs ++ ys ≡ [] → xs ≡ []
  none-left [] ys none = refl
  none-left (x ∷ xs) ys none = absurd (cons_none x (xs ++ ys) none)

  pub none-right : (xs ys : List X) → xs ++ ys ≡ [] → ys ≡ []
  none-right [] ys none = none
  none-right (x ∷ xs) ys none = absurd (cons_none x (xs ++ ys) none)

  -- a test that one of them passes
  pub any-among : (p : X → Bool) (x : X) (xs : List X) → Among x xs → p x ≡ true → list_any p xs ≡ true
  any-among p x [] is passes = absurd is
  any-among p x (y ∷ xs) (inl here) passes = or_left (p y) (list_any p xs) (ap p here ∙ passes)
  any-among p x (y ∷ xs) (inr later) passes = or_right (p y) (list_any p xs) (any-among p x xs later passes)

  pub among-any : (p : X → Bool) (xs : List X) → list_any p xs ≡ true → (x : X) × Among x xs × (p x ≡ true)
  among-any p [] is = absurd (false≢true is)
  among-any p (y ∷ xs) is =
      ⊎_elim (λ here. (y, inl refl, here)) (λ later. let rest = among-any p xs later in (rest.0, inr rest.1, rest.2))
      (or_cases (p y) (list_any p xs) is)

  pub not_any : (p : X → Bool) (xs : List X) → ((x : X) → Among x xs → p x ≡ false) → list_any p xs ≡ false
  not_any p [] none = refl
  not_any p (y ∷ xs) none = ap (λ t. t || list_any p xs) (none y (inl refl)) ∙ not_any p xs (λ x is. none x (inr is))

  pub all-among : (p : X → Bool) (xs : List X) → list_all p xs ≡ true → (x : X) → Among x xs → p x ≡ true
  all-among p [] all x is = absurd is
  all-among p (y ∷ xs) all x (inl here) = ap p (sym here) ∙ (and_parts (p y) (list_all p xs) all).0
  all-among p (y ∷ xs) all x (inr later) = all-among p xs (and_parts (p y) (list_all p xs) all).1 x later

  pub all-from_among : (p : X → Bool) (xs : List X) → ((x : X) → Among x xs → p x ≡ true) → list_all p xs ≡ true
  all-from_among p [] each = refl
  all-from_among p (y ∷ xs) each = and_from (p y) (list_all p xs) (each y (inl refl)) (all-from_among p xs (λ x is. each x (inr is)))

  -- The same as std's `Contains`.

  pub contains-from_among : (x : X) (xs : List X) → Among x xs → Contains xs x
  contains-from_among x [] is = absurd is
  contains-from_among x (y ∷ xs) (inl here) = (0, omega arith, here)
  contains-from_among x (y ∷ xs) (inr later) = let rest = contains-from_among x xs later in let l = rest.1 in (suc rest.0, omega arith, rest.2)

  at_place : (x : X) (xs : List X) (k : ℕ) → k < length xs → slice_index_or xs k x ≡ x → Among x xs
  at_place x [] k less is = absurd (omega arith)
  at_place x (y ∷ xs) zero less is = inl is
  at_place x (y ∷ xs) (suc k) less is = inr (at_place x xs k (omega arith) is)

  pub among-from_contains : (x : X) (xs : List X) → Contains xs x → Among x xs
  among-from_contains x xs is = at_place x xs is.0 is.1 is.2

module _ {X Y : Type 0} where
  pub among-map : (f : X → Y) (y : Y) (xs : List X) → Among y (map f xs) → (x : X) × Among x xs × (f x ≡ y)
  among-map f y [] is = absurd is
  among-map f y (x ∷ xs) (inl here) = (x, inl refl, here)
  among-map f y (x ∷ xs) (inr later) = let rest = among-map f y xs later in (rest.0, inr rest.1, rest.2)

  pub in_map : (f : X → Y) (x : X) (xs : List X) → Among x xs → Among (f x) (map f xs)
  in_map f x [] is = absurd is
  in_map f x (y ∷ xs) (inl here) = inl (ap f here)
  in_map f x (y ∷ xs) (inr later) = inr (in_map f x xs later)

  pub among-flat_map : (f : X → List Y) (y : Y) (xs : List X) → Among y (flat_map f xs) → (x : X) × Among x xs × Among y (f x)
  among-flat_map f y [] is = absurd is
  among-flat_map f y (x ∷ xs) is =
      ⊎_elim (λ here. (x, inl refl, here)) (λ later. let rest = among-flat_map f y xs later in (rest.0, inr rest.1, rest.2))
      (among-append y (f x) (flat_map f xs) is)

  pub in_flat_map : (f : X → List Y) (x : X) (y : Y) (xs : List X) → Among x xs → Among y (f x) → Among y (flat_map f xs)
  in_flat_map f x y [] is has = absurd is
  in_flat_map f x y (z ∷ xs) (inl here) has = among-left y (f z) (flat_map f xs) (subst (λ u. Among y (f u)) (sym here) has)
  in_flat_map f x y (z ∷ xs) (inr later) has = among-right y (f z) (flat_map f xs) (in_flat_map f x y xs later has)

  pub flat_map-none : (f : X → List Y) (xs : List X) → ((x : X) → Among x xs → f x ≡ []) → flat_map f xs ≡ []
  flat_map-none f [] none = refl
  flat_map-none f (x ∷ xs) none = append-none (f x) (flat_map f xs) (none x (inl refl)) (flat_map-none f xs (λ y is. none y (inr is)))

  pub none_mapped : (f : X → List Y) (xs : List X) → flat_map f xs ≡ [] → (x : X) → Among x xs → f x ≡ []
  none_mapped f [] none x is = absurd is
  none_mapped f (y ∷ xs) none x (inl here) = ap f (sym here) ∙ none-left (f y) (flat_map f xs) none
  none_mapped f (y ∷ xs) none x (inr later) = none_mapped f xs (none-right (f y) (flat_map f xs) none) x later

  pub map-none : (f : X → Y) (xs : List X) → map f xs ≡ [] → xs ≡ []
  map-none f [] none = refl
  map-none f (x ∷ xs) none = absurd (cons_none (f x) (map f xs) none)

-- numbers
pub among-is_in : (i : ℕ) (is : List ℕ) → IsTrue (is_in i is) → Among i is
among-is_in i is listed = let found = among-any (eqb i) is listed in subst (λ k. Among k is) (sym (eqb-true i found.0 found.2)) found.1

pub is_in-among : (i : ℕ) (is : List ℕ) → Among i is → IsTrue (is_in i is)
is_in-among i is among = any-among (eqb i) i is among (eq-eqb i i refl)
