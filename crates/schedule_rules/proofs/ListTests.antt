-- Tests on lists of entries.
use Rattle.std.proofs.Common.{◌≡◌, inl, inr, ℕ, ◌-◌, ◌<◌, ◌≤◌, zero, suc, Bool, true, false, cond, ◌||◌, List, [], ◌∷◌, ◌++◌, filter, length, take, drop, get_or, sym, refl, ap, ◌∙◌, subst, arith}
use Rattle.std.specs.List.{list_any}
use Rattle.std.proofs.Math.Seq.{split_at}
use Rattle.std.proofs.lemmas.Bool.{false≢true}
use Rattle.std.proofs.lemmas.List.{take_rest}
use Rattle.process_tree.specs.Order.{Each}
use Rattle.schedule_model.proofs.Members.{Among, among-any, among-left, among_there, any-among}
use Rattle.schedule_rules.proofs.Turned.{drop_all}

-- tests of which each follows from the other
pub both_ways : (a b : Bool) → (a ≡ true → b ≡ true) → (b ≡ true → a ≡ true) → a ≡ b
both_ways true true to from = refl
both_ways true false to from = sym (to refl)
both_ways false true to from = from refl
both_ways false false to from = refl

-- a test that isn't passed
pub not_passed : (a : Bool) → (a ≡ true → ⊥) → a ≡ false
not_passed true no' = absurd (no' refl)
not_passed false no' = refl

pub or_shift : (a b c : Bool) → ((a || b) || c) ≡ (b || (a || c))
or_shift true true c = refl
or_shift true false c = refl
or_shift false b c = refl

module _ {X : Type 0} where
  -- one test or another
  pub any-same : (p q : X → Bool) (xs : List X) → ((x : X) → Among x xs → p x ≡ q x) → list_any p xs ≡ list_any q xs
  any-same p q [] same = refl
  any-same p q (x ∷ xs) same = ap (λ t. t || list_any p xs) (same x (inl refl)) ∙ ap (λ t. q x || t) (any-same p q xs (λ y is. same y (inr is)))

  -- none passes
  pub none_of_all : (p : X → Bool) (x : X) (xs : List X) → list_any p xs ≡ false → Among x xs → p x ≡ false
  none_of_all p x xs none is = not_passed (p x) (λ passes. false≢true (sym none ∙ any-among p x xs is passes))

  -- a filter that all pass
  pub all_pass : (p : X → Bool) (xs : List X) → ((x : X) → Among x xs → p x ≡ true) → filter p xs ≡ xs
  all_pass p [] all = refl
  all_pass p (x ∷ xs) all = ap (λ t. cond t (x ∷ filter p xs) (filter p xs)) (all x (inl refl)) ∙ ap (λ ys. x ∷ ys) (all_pass p xs (λ y is. all y (inr is)))

  -- what each has
  pub each-among : (P : X → Type 0) (x : X) (xs : List X) → Each P xs → Among x xs → P x
  each-among P x [] each is = absurd is
  each-among P x (y ∷ xs) each (inl here) = subst P here each.0
  each-among P x (y ∷ xs) each (inr later) = each-among P x xs each.1 later

  -- and so has the one at a place
  pub each_at : (P : X → Type 0) (xs : List X) → Each P xs → (x : X) (k : ℕ) → k < length xs → x ≡ get_or xs k x → P x
  each_at P [] each x k less is = absurd (omega arith)
  each_at P (y ∷ xs) each x zero less is = subst P (sym is) each.0
  each_at P (y ∷ xs) each x (suc k) less is = each_at P xs each.1 x k (omega arith) is

  pub each_from : (P : X → Type 0) (xs : List X) → ((x : X) → Among x xs → P x) → Each P xs
  each_from P [] all = tt
  each_from P (x ∷ xs) all = (all x (inl refl), each_from P xs (λ y is. all y (inr is)))

  -- a list is its first and the rest
  pub first_split : (xs : List X) (d : X) → 1 ≤ length xs → xs ≡ get_or xs 0 d ∷ take (length xs - 1) (drop 1 xs)
  first_split [] d some = absurd (omega arith)
  first_split (x ∷ xs) d some = ap (λ es. x ∷ es) (sym (nothing xs)) ∙ ap (λ es. x ∷ es) (sym (take_rest (x ∷ xs) 1))
    where
      nothing : (ys : List X) → drop 0 ys ≡ ys
      nothing [] = refl
      nothing (y ∷ ys) = refl

  -- a list and its last
  pub last_split : (xs : List X) (d : X) → 1 ≤ length xs → xs ≡ take (length xs - 1) xs ++ get_or xs (length xs - 1) d ∷ []
  last_split xs d some =
      split_at xs (length xs - 1) d (omega arith)
      ∙ ap (λ es. take (length xs - 1) xs ++ get_or xs (length xs - 1) d ∷ es) (drop_all xs (suc (length xs - 1)) (omega arith))

  -- what each of these has, those before the last have, and the last
  pub each_last : (P : X → Type 0) (xs : List X) (d : X) → 1 ≤ length xs → Each P xs → Each P (take (length xs - 1) xs) × P (get_or xs (length xs - 1) d)
  each_last P xs d some each =
      let all = subst (Each P) (last_split xs d some) each in (
        each_from P (take (length xs - 1) xs) (λ x is. each-among P x (take (length xs - 1) xs ++ get_or xs (length xs - 1) d ∷ []) all (among-left x (take (length xs - 1) xs) (get_or xs (length xs - 1) d ∷ []) is)),
        each-among P (get_or xs (length xs - 1) d) (take (length xs - 1) xs ++ get_or xs (length xs - 1) d ∷ []) all (among_there (take (length xs - 1) xs) (get_or xs (length xs - 1) d) []),
      )

module _ {X Y : Type 0} where
  -- one of these and one of those: the same the other way round
  pub any-swapped : (f : X → Y → Bool) (xs : List X) (ys : List Y) → list_any (λ x. list_any (f x) ys) xs ≡ list_any (λ y. list_any (λ x. f x y) xs) ys
  any-swapped f xs ys =
      both_ways (list_any (λ x. list_any (f x) ys) xs) (list_any (λ y. list_any (λ x. f x y) xs) ys)
      (λ is.
      let one = among-any (λ x. list_any (f x) ys) xs is in
      let two = among-any (f one.0) ys one.2 in
      any-among (λ y. list_any (λ x. f x y) xs) two.0 ys two.1 (any-among (λ x. f x two.0) one.0 xs one.1 two.2))
      (λ is.
      let one = among-any (λ y. list_any (λ x. f x y) xs) ys is in
      let two = among-any (λ x. f x one.0) xs one.2 in
      any-among (λ x. list_any (f x) ys) two.0 xs two.1 (any-among (f two.0) one.0 ys one.1 two.2))
