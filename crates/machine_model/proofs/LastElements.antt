-- Lists by their last element.
use Rattle.std.proofs.Common.{◌≡◌, ◌⊎◌, inl, inr, ℕ, zero, suc, Bool, true, false, cond, List, [], ◌∷◌, ◌++◌, filter, drop, Some, sym, refl, ap, ◌∙◌}
use Rattle.std.specs.List.{list_any}
use Rattle.std.proofs.lemmas.Bool.{or_left, or_right}
use Rattle.process_tree.specs.Order.{Each}
use Rattle.process_tree.specs.Shape.{last_of}

-- a list with this element at its end
pub record HasEnd {X : Type 0} (xs : List X) : Type 0 where
  pub front : List X
  pub last : X
  pub is : xs ≡ front ++ last ∷ []

behind_one : {X : Type 0} (x : X) (xs : List X) → (xs ≡ []) ⊎ HasEnd xs → HasEnd (x ∷ xs)
behind_one x xs (inl none) = record { front = []; last = x; is = ap (λ ys. x ∷ ys) none }
behind_one x xs (inr ends) = record { front = x ∷ ends.front; last = ends.last; is = ap (λ ys. x ∷ ys) ends.is }

-- a list is empty or has an end
pub has_end : {X : Type 0} (xs : List X) → (xs ≡ []) ⊎ HasEnd xs
has_end [] = inl refl
has_end (x ∷ xs) = inr (behind_one x xs (has_end xs))

pub last_of-push : (xs : List ℕ) (x : ℕ) → last_of (xs ++ x ∷ []) ≡ Some x
last_of-push [] x = refl
last_of-push (y ∷ []) x = refl
last_of-push (y ∷ z ∷ xs) x = last_of-push (z ∷ xs) x

-- the last of a list, or else this
abbrev last_else : {X : Type 0} → X → List X → X
last_else d [] = d
last_else d (x ∷ xs) = last_else x xs

last_else-push : {X : Type 0} (d : X) (xs : List X) (x : X) → last_else d (xs ++ x ∷ []) ≡ x
last_else-push d [] x = refl
last_else-push d (y ∷ xs) x = last_else-push y xs x

-- equal lists have equal ends
pub same_end : {X : Type 0} (xs ys : List X) (x y : X) → xs ++ x ∷ [] ≡ ys ++ y ∷ [] → x ≡ y
same_end xs ys x y same = sym (last_else-push x xs x) ∙ (ap (last_else x) same ∙ last_else-push x ys y)

-- what each has, each of those behind a place has
pub Each-drop : {X : Type 0} (P : X → Type 0) (n : ℕ) (xs : List X) → Each P xs → Each P (drop n xs)
Each-drop P zero xs each = each
Each-drop P (suc n) [] each = tt
Each-drop P (suc n) (x ∷ xs) each = Each-drop P n xs each.1

pub Each-last : {X : Type 0} (P : X → Type 0) (xs : List X) (x : X) → Each P (xs ++ x ∷ []) → P x
Each-last P [] x each = each.0
Each-last P (y ∷ xs) x each = Each-last P xs x each.1

pub any_last : {X : Type 0} (p : X → Bool) (xs : List X) (x : X) → p x ≡ true → list_any p (xs ++ x ∷ []) ≡ true
any_last p [] x is = or_left (p x) false is
any_last p (y ∷ xs) x is = or_right (p y) (list_any p (xs ++ x ∷ [])) (any_last p xs x is)

none_step : {X : Type 0} (p : X → Bool) (x : X) (xs : List X) (t : Bool) → p x ≡ t → (filter p xs ≡ [] → Each (λ y. p y ≡ false) xs) → cond t (x ∷ filter p xs) (filter p xs) ≡ [] → Each (λ y. p y ≡ false) (x ∷ xs)
none_step p x xs true at rest is = absurd (cc)
none_step p x xs false at rest is = (at, rest is)

-- where a filter leaves nothing, nothing passes
pub none_pass : {X : Type 0} (p : X → Bool) (xs : List X) → filter p xs ≡ [] → Each (λ x. p x ≡ false) xs
none_pass p [] is = tt
none_pass p (x ∷ xs) is = none_step p x xs (p x) refl (none_pass p xs) is

pass_step : {X : Type 0} (p : X → Bool) (x : X) (ys : List X) (t : Bool) → p x ≡ t → Each (λ y. p y ≡ true) ys → Each (λ y. p y ≡ true) (cond t (x ∷ ys) ys)
pass_step p x ys true at rest = (at, rest)
pass_step p x ys false at rest = rest

-- what a filter leaves passes
pub all_pass : {X : Type 0} (p : X → Bool) (xs : List X) → Each (λ x. p x ≡ true) (filter p xs)
all_pass p [] = tt
all_pass p (x ∷ xs) = pass_step p x (filter p xs) (p x) refl (all_pass p xs)
