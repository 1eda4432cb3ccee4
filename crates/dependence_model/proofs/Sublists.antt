-- Parts of a list, in the order of the list.
use Rattle.std.proofs.Common.{◌≡◌, ◌⊎◌, inl, inr, ◌≤◌, List, [], ◌∷◌, length, sym, refl, ap, ◌∙◌, arith}
use Rattle.schedule_model.proofs.Members.{Among}

-- the elements of xs stand in ys in the same order, among others
abbrev pub Sub : {X : Type 0} → List X → List X → Type 0
Sub [] ys = Unit {0}
Sub (x ∷ xs) [] = ⊥
Sub (x ∷ xs) (y ∷ ys) = ((x ≡ y) × Sub xs ys) ⊎ Sub (x ∷ xs) ys

module _ {X : Type 0} where
  pub sub-itself : (xs : List X) → Sub xs xs
  sub-itself [] = tt
  sub-itself (x ∷ xs) = inl (refl, sub-itself xs)

  -- one more in the list
  pub sub-more : (xs : List X) (y : X) (ys : List X) → Sub xs ys → Sub xs (y ∷ ys)
  sub-more [] y ys sub = tt
  sub-more (x ∷ xs) y ys sub = inr sub

  -- one less in the part
  pub sub-less : (x : X) (xs ys : List X) → Sub (x ∷ xs) ys → Sub xs ys
  sub-less x xs [] sub = absurd sub
  sub-less x xs (y ∷ ys) (inl here) = sub-more xs y ys here.1
  sub-less x xs (y ∷ ys) (inr later) = sub-more xs y ys (sub-less x xs ys later)

  pub among-sub : (a : X) (xs ys : List X) → Sub xs ys → Among a xs → Among a ys
  among-sub a [] ys sub is = absurd is
  among-sub a (x ∷ xs) [] sub is = absurd sub
  among-sub a (x ∷ xs) (y ∷ ys) (inl here) (inl same) = inl (sym here.0 ∙ same)
  among-sub a (x ∷ xs) (y ∷ ys) (inl here) (inr later) = inr (among-sub a xs ys here.1 later)
  among-sub a (x ∷ xs) (y ∷ ys) (inr sub) is = inr (among-sub a (x ∷ xs) ys sub is)

  -- a part of a part is one
  pub sub-trans : (xs ys zs : List X) → Sub xs ys → Sub ys zs → Sub xs zs
  sub-trans [] ys zs one two = tt
  sub-trans (x ∷ xs) [] zs one two = absurd one
  sub-trans (x ∷ xs) (y ∷ ys) [] one two = absurd two
  sub-trans (x ∷ xs) (y ∷ ys) (z ∷ zs) (inl here) (inl there) = inl (here.0 ∙ there.0, sub-trans xs ys zs here.1 there.1)
  sub-trans (x ∷ xs) (y ∷ ys) (z ∷ zs) (inr sub) (inl there) = inr (sub-trans (x ∷ xs) ys zs sub there.1)
  sub-trans (x ∷ xs) (y ∷ ys) (z ∷ zs) one (inr sub) = inr (sub-trans (x ∷ xs) (y ∷ ys) zs one sub)

  pub sub-length : (xs ys : List X) → Sub xs ys → length xs ≤ length ys
  sub-length [] ys sub = omega arith
  sub-length (x ∷ xs) [] sub = absurd sub
  sub-length (x ∷ xs) (y ∷ ys) (inl here) = let l = sub-length xs ys here.1 in omega arith
  sub-length (x ∷ xs) (y ∷ ys) (inr later) = let l = sub-length (x ∷ xs) ys later in omega arith

  -- a part that is as long is the whole
  pub sub-whole : (xs ys : List X) → Sub xs ys → length ys ≤ length xs → xs ≡ ys
  sub-whole [] [] sub long = refl
  sub-whole [] (y ∷ ys) sub long = absurd (omega arith)
  sub-whole (x ∷ xs) [] sub long = absurd sub
  sub-whole (x ∷ xs) (y ∷ ys) (inl here) long = ap (λ z. z ∷ xs) here.0 ∙ ap (λ zs. y ∷ zs) (sub-whole xs ys here.1 (omega arith))
  sub-whole (x ∷ xs) (y ∷ ys) (inr later) long = let l = sub-length (x ∷ xs) ys later in absurd (omega arith)

  -- lists that are parts of each other are one
  pub sub-both : (xs ys : List X) → Sub xs ys → Sub ys xs → xs ≡ ys
  sub-both xs ys one two = sub-whole xs ys one (sub-length ys xs two)
