-- How many of a list pass a test.
use Rattle.std.proofs.Common.{◌≡◌, ℕ, ◌+◌, ◌≤◌, Bool, true, false, not, cond, List, [], ◌∷◌, ◌++◌, filter, map, find, Some, is_some, ◌||◌, sym, refl, ap, arith}
use Rattle.std.specs.List.{list_any}
use Rattle.std.proofs.lemmas.Bool.{false≢true}

-- the number of those that pass
abbrev pub count : {X : Type 0} → (X → Bool) → List X → ℕ
count p [] = 0
count p (x ∷ xs) = cond (p x) 1 0 + count p xs

pub count-append : {X : Type 0} (p : X → Bool) (xs ys : List X) → count p (xs ++ ys) ≡ count p xs + count p ys
count-append p [] ys = omega arith
count-append p (x ∷ xs) ys = let ih = count-append p xs ys in omega arith

-- one more at the end
pub count-push : {X : Type 0} (p : X → Bool) (xs : List X) (y : X) → count p (xs ++ y ∷ []) ≡ count p xs + cond (p y) 1 0
count-push p xs y = let h = count-append p xs (y ∷ []) in omega arith

-- tests that agree count the same
pub count-same : {X : Type 0} (p q : X → Bool) (xs : List X) → ((x : X) → p x ≡ q x) → count p xs ≡ count q xs
count-same p q [] same = refl
count-same p q (x ∷ xs) same = rw (same x, count-same p q xs same) refl

pub count-map : {X Y : Type 0} (p : Y → Bool) (f : X → Y) (xs : List X) → count p (map f xs) ≡ count (λ x. p (f x)) xs
count-map p f [] = refl
count-map p f (x ∷ xs) = ap (λ n. cond (p (f x)) 1 0 + n) (count-map p f xs)

split_step : {X : Type 0} (p : X → Bool) (x : X) (ys zs xs : List X) (t : Bool) → count p ys + count p zs ≡ count p xs
    → count p (cond (not t) (x ∷ ys) ys) + count p (cond t (x ∷ zs) zs) ≡ cond (p x) 1 0 + count p xs
split_step p x ys zs xs true is = omega arith
split_step p x ys zs xs false is = omega arith

-- a list parts into those that fail and those that pass another test
pub count-split : {X : Type 0} (p q : X → Bool) (xs : List X) → count p (filter (λ x. not (q x)) xs) + count p (filter q xs) ≡ count p xs
count-split p q [] = refl
count-split p q (x ∷ xs) = split_step p x (filter (λ y. not (q y)) xs) (filter q xs) xs (q x) (count-split p q xs)

without_step : {X : Type 0} (p : X → Bool) (x : X) (ys : List X) (t : Bool) → p x ≡ t → count p ys ≡ 0 → count p (cond (not t) (x ∷ ys) ys) ≡ 0
without_step p x ys true is none = none
without_step p x ys false is none = let h = none in rw is (omega arith)

-- none of those that fail passes
pub count-without : {X : Type 0} (p : X → Bool) (xs : List X) → count p (filter (λ x. not (p x)) xs) ≡ 0
count-without p [] = refl
count-without p (x ∷ xs) = without_step p x (filter (λ y. not (p y)) xs) (p x) refl (count-without p xs)

some_step : {X : Type 0} (p : X → Bool) (xs : List X) (t : Bool) → (list_any p xs ≡ true → 1 ≤ count p xs) → (t || list_any p xs) ≡ true → 1 ≤ cond t 1 0 + count p xs
some_step p xs true rest is = omega arith
some_step p xs false rest is = let h = rest is in omega arith

-- where one passes, the count is 1 at least
pub count-some : {X : Type 0} (p : X → Bool) (xs : List X) → list_any p xs ≡ true → 1 ≤ count p xs
count-some p [] is = absurd (false≢true is)
count-some p (x ∷ xs) is = some_step p xs (p x) (count-some p xs) is

none_step : {X : Type 0} (p : X → Bool) (xs : List X) (t : Bool) → (list_any p xs ≡ false → count p xs ≡ 0) → (t || list_any p xs) ≡ false → cond t 1 0 + count p xs ≡ 0
none_step p xs true rest is = absurd (false≢true (sym is))
none_step p xs false rest is = let h = rest is in omega arith

-- where none passes, it is 0
pub count-none : {X : Type 0} (p : X → Bool) (xs : List X) → list_any p xs ≡ false → count p xs ≡ 0
count-none p [] is = refl
count-none p (x ∷ xs) is = none_step p xs (p x) (count-none p xs) is

by_any : (n : ℕ) (t : Bool) → (t ≡ true → 1 ≤ n) → (t ≡ false → n ≡ 0) → 1 ≤ n → t ≡ true
by_any n true some none least = refl
by_any n false some none least = let h = none refl in absurd (omega arith)

by_none : (n : ℕ) (t : Bool) → (t ≡ true → 1 ≤ n) → n ≡ 0 → t ≡ false
by_none n true some none = let h = some refl in absurd (omega arith)
by_none n false some none = refl

-- and the converses
pub some-count : {X : Type 0} (p : X → Bool) (xs : List X) → 1 ≤ count p xs → list_any p xs ≡ true
some-count p xs least = by_any (count p xs) (list_any p xs) (count-some p xs) (count-none p xs) least

pub none-count : {X : Type 0} (p : X → Bool) (xs : List X) → count p xs ≡ 0 → list_any p xs ≡ false
none-count p xs none = by_none (count p xs) (list_any p xs) (count-some p xs) none

found_step : {X : Type 0} (p : X → Bool) (x : X) (xs : List X) (t : Bool) → is_some (find p xs) ≡ list_any p xs → is_some (cond t (Some x) (find p xs)) ≡ (t || list_any p xs)
found_step p x xs true rest = refl
found_step p x xs false rest = rest

-- something is found exactly where something passes
pub found-any : {X : Type 0} (p : X → Bool) (xs : List X) → is_some (find p xs) ≡ list_any p xs
found-any p [] = refl
found-any p (x ∷ xs) = found_step p x xs (p x) (found-any p xs)
