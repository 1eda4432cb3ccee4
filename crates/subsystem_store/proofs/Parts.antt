-- The first of a list's elements and the others, with one more at the end, and with one more among the first.
use Rattle.std.proofs.Common.{◌≡◌, ◌≢◌, ◌<◌, ◌≤◌, ◌+◌, ℕ, List, [], ◌∷◌, ◌++◌, length, take, drop, refl, sym, ◌∙◌, ap, arith, append_assoc, length-append, take-append-drop}
use Rattle.std.proofs.lemmas.List.{take_at, drop_at, length-drop, length-take-le}

-- a list that ends in one more, by its parts
parts_push : {A : Type 0} (n : ℕ) (xs : List A) (x : A) → xs ++ x ∷ [] ≡ take n xs ++ (drop n xs ++ x ∷ [])
parts_push {A} n xs x = ap (λ (l : List A). l ++ x ∷ []) (sym (take-append-drop n xs)) ∙ append_assoc (take n xs) (drop n xs) (x ∷ [])

pub take_push : {A : Type 0} (n : ℕ) (xs : List A) (x : A) → n ≤ length xs → take n (xs ++ x ∷ []) ≡ take n xs
take_push n xs x within = ap (take n) (parts_push n xs x) ∙ take_at (take n xs) (drop n xs ++ x ∷ []) n (length-take-le n xs within)

pub drop_push : {A : Type 0} (n : ℕ) (xs : List A) (x : A) → n ≤ length xs → drop n (xs ++ x ∷ []) ≡ drop n xs ++ x ∷ []
drop_push n xs x within = ap (drop n) (parts_push n xs x) ∙ drop_at (take n xs) (drop n xs ++ x ∷ []) n (length-take-le n xs within)

-- a list by its parts, where the others begin with one
parts_next : {A : Type 0} (n : ℕ) (xs : List A) (x : A) (rest : List A) → drop n xs ≡ x ∷ rest → xs ≡ (take n xs ++ x ∷ []) ++ rest
parts_next {A} n xs x rest is = sym (take-append-drop n xs) ∙ ap (λ (l : List A). take n xs ++ l) is ∙ sym (append_assoc (take n xs) (x ∷ []) rest)

size_next : {A : Type 0} (n : ℕ) (xs : List A) (x : A) → n ≤ length xs → length (take n xs ++ x ∷ []) ≡ n + 1
size_next n xs x within = omega (arith, length-append (take n xs) (x ∷ []), length-take-le n xs within)

pub take_next : {A : Type 0} (n : ℕ) (xs : List A) (x : A) (rest : List A) → n ≤ length xs → drop n xs ≡ x ∷ rest → take (n + 1) xs ≡ take n xs ++ x ∷ []
take_next n xs x rest within is = ap (take (n + 1)) (parts_next n xs x rest is) ∙ take_at (take n xs ++ x ∷ []) rest (n + 1) (size_next n xs x within)

pub drop_next : {A : Type 0} (n : ℕ) (xs : List A) (x : A) (rest : List A) → n ≤ length xs → drop n xs ≡ x ∷ rest → drop (n + 1) xs ≡ rest
drop_next n xs x rest within is = ap (drop (n + 1)) (parts_next n xs x rest is) ∙ drop_at (take n xs ++ x ∷ []) rest (n + 1) (size_next n xs x within)

-- how many both parts are
pub size_of_parts : {A : Type 0} (n : ℕ) (xs : List A) → n ≤ length xs → n + length (drop n xs) ≡ length xs
size_of_parts n xs within = omega (arith, ap length (take-append-drop n xs), length-append (take n xs) (drop n xs), length-take-le n xs within)

-- where some are left, there is one at that place
pub some_left : {A : Type 0} (n : ℕ) (xs : List A) → drop n xs ≢ [] → n < length xs
some_left {A} n xs some = omega (arith, length-drop n xs, one_of (drop n xs) some)
  where
    one_of : (rest : List A) → rest ≢ [] → 1 ≤ length rest
    one_of [] some = absurd (some refl)
    one_of (x ∷ rest) some = omega arith
