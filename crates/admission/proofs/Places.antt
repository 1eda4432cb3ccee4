-- The part of a list from one place to before another.
use Rattle.std.proofs.Common.{◌≡◌, ℕ, zero, suc, ◌-◌, ◌<◌, ◌≤◌, List, [], ◌∷◌, ◌++◌, length, take, drop, refl, sym, ap, ◌∙◌, arith}
use Rattle.std.specs.Prelude.{slice_index_or}

-- it begins with what stands at the place
pub part_at : {A : Type 0} (xs : List A) (place end : ℕ) (d : A) → place < end → end ≤ length xs
    → drop place (take end xs) ≡ slice_index_or xs place d ∷ drop (suc place) (take end xs)
part_at [] place zero d less most = absurd (omega arith)
part_at [] place (suc end) d less most = absurd (omega arith)
part_at (x ∷ xs) place zero d less most = absurd (omega arith)
part_at (x ∷ xs) zero (suc end) d less most = refl
part_at (x ∷ xs) (suc place) (suc end) d less most = part_at xs place end d (omega arith) (omega arith)

-- what stands before the next place ends with it
pub front_at : {A : Type 0} (xs : List A) (place : ℕ) (d : A) → place < length xs → take (suc place) xs ≡ take place xs ++ slice_index_or xs place d ∷ []
front_at [] place d less = absurd (omega arith)
front_at (x ∷ xs) zero d less = front_none xs
  where
    front_none : {A : Type 0} {x : A} (xs : List A) → x ∷ take 0 xs ≡ x ∷ []
    front_none [] = refl
    front_none (y ∷ ys) = refl
front_at (x ∷ xs) (suc place) d less = ap (x ∷◌) (front_at xs place d (omega arith))

-- one place further on, it ends with what stands there
pub part_last : {A : Type 0} (xs : List A) (from place : ℕ) (d : A) → from ≤ place → place < length xs
    → drop from (take (suc place) xs) ≡ drop from (take place xs) ++ slice_index_or xs place d ∷ []
part_last [] from place d le less = absurd (omega arith)
part_last (x ∷ xs) zero place d le less = front_at (x ∷ xs) place d less
part_last (x ∷ xs) (suc from) zero d le less = absurd (omega arith)
part_last (x ∷ xs) (suc from) (suc place) d le less = part_last xs from place d (omega arith) (omega arith)

no_part : {A : Type 0} (a b : ℕ) → drop {A = A} a (take b []) ≡ []
no_part zero zero = refl
no_part zero (suc b) = refl
no_part (suc a) zero = refl
no_part (suc a) (suc b) = refl

-- one part, and the one behind it
pub part_parts : {A : Type 0} (xs : List A) (from mid end : ℕ) → from ≤ mid → mid ≤ end → drop from (take end xs) ≡ drop from (take mid xs) ++ drop mid (take end xs)
part_parts [] from mid end le most = no_part from end ∙ sym (ap (λ es. es ++ drop mid (take end [])) (no_part from mid) ∙ no_part mid end)
part_parts (x ∷ xs) zero zero end le most = refl
part_parts (x ∷ xs) zero (suc mid) zero le most = absurd (omega arith)
part_parts (x ∷ xs) zero (suc mid) (suc end) le most = ap (x ∷◌) (part_parts xs zero mid end (omega arith) (omega arith))
part_parts (x ∷ xs) (suc from) zero end le most = absurd (omega arith)
part_parts (x ∷ xs) (suc from) (suc mid) zero le most = absurd (omega arith)
part_parts (x ∷ xs) (suc from) (suc mid) (suc end) le most = part_parts xs from mid end (omega arith) (omega arith)

-- it is empty where the places are the same
pub part_none : {A : Type 0} (xs : List A) (end : ℕ) → end ≤ length xs → drop end (take end xs) ≡ []
part_none [] zero most = refl
part_none [] (suc end) most = absurd (omega arith)
part_none (x ∷ xs) zero most = refl
part_none (x ∷ xs) (suc end) most = part_none xs end (omega arith)

-- what stands from a place on begins with what stands there
pub rest_at : {A : Type 0} (xs : List A) (place : ℕ) (d : A) → place < length xs → drop place xs ≡ slice_index_or xs place d ∷ drop (suc place) xs
rest_at [] place d less = absurd (omega arith)
rest_at (x ∷ xs) zero d less = refl
rest_at (x ∷ xs) (suc place) d less = rest_at xs place d (omega arith)

pub rest_none : {A : Type 0} (xs : List A) → drop (length xs) xs ≡ []
rest_none [] = refl
rest_none (x ∷ xs) = rest_none xs

module _ {A : Type 0} (xs : List A) (place : ℕ) (x : A) (some : 0 < place) where
  back : suc (place - 1) ≡ place
  back = omega arith

  -- one place further to the front stands one more
  pub rest_back : place ≤ length xs → ((d : A) → x ≡ slice_index_or xs (place - 1) d) → drop (place - 1) xs ≡ x ∷ drop place xs
  rest_back most is = rest_at xs (place - 1) x (omega arith) ∙ ap (λ y. y ∷ drop (suc (place - 1)) xs) (sym (is x)) ∙ ap (λ n. x ∷ drop n xs) back

  pub front_back : place ≤ length xs → ((d : A) → x ≡ slice_index_or xs (place - 1) d) → take place xs ≡ take (place - 1) xs ++ x ∷ []
  front_back most is = ap (λ n. take n xs) (sym back) ∙ front_at xs (place - 1) x (omega arith) ∙ ap (λ y. take (place - 1) xs ++ y ∷ []) (sym (is x))

  pub part_back : (end : ℕ) → place ≤ end → end ≤ length xs → ((d : A) → x ≡ slice_index_or xs (place - 1) d) → drop (place - 1) (take end xs) ≡ x ∷ drop place (take end xs)
  part_back end le most is = part_at xs (place - 1) end x (omega arith) most ∙ ap (λ y. y ∷ drop (suc (place - 1)) (take end xs)) (sym (is x)) ∙ ap (λ n. x ∷ drop n (take end xs)) back
