-- Parts of a list that are turned.
use Rattle.std.proofs.Common.{◌≡◌, ℕ, zero, suc, ◌+◌, ◌-◌, ◌<◌, ◌≤◌, List, [], ◌∷◌, ◌++◌, length, take, drop, get_or, sym, refl, ap, ◌∙◌, arith, append-nil, append_assoc, length-append}
use Rattle.std.proofs.Math.Seq.{split_at}
use Rattle.std.specs.List.{slice_range}
use Rattle.std.proofs.lemmas.List.Folds.{drop_split}
use Rattle.std.proofs.lemmas.List.Edits.{paste_all}
use Rattle.std.proofs.lemmas.Slice.{put_mid-paste}
use borrow.Rule.Slice.PartMut.{mid_of, put_mid}

module _ {X : Type 0} where
  pub take_front : (front rest : List X) → take (length front) (front ++ rest) ≡ front
  take_front [] [] = refl
  take_front [] (x ∷ rest) = refl
  take_front (e ∷ front) rest = ap (λ es. e ∷ es) (take_front front rest)

  pub drop_front : (front rest : List X) → drop (length front) (front ++ rest) ≡ rest
  drop_front [] [] = refl
  drop_front [] (x ∷ rest) = refl
  drop_front (e ∷ front) rest = drop_front front rest

  -- a list that is split before a part and behind it
  pub part_is : (front part rest : List X) → mid_of (length front) (length part) (front ++ (part ++ rest)) ≡ part
  part_is front part rest = ap (take (length part)) (drop_front front (part ++ rest)) ∙ take_front part rest

  -- and with another part of the same length put there
  pub part_put : (front part rest other : List X) → length other ≡ length part
      → put_mid (length front) (length part) (front ++ (part ++ rest)) other ≡ front ++ (other ++ rest)
  part_put front part rest other same =
      put_mid-paste (length front) (length part) (front ++ (part ++ rest)) other other (length part) refl refl (sym same)
      ∙ (paste_all (front ++ (part ++ rest)) (length front) other (length part) (sym same)
      ∙ (ap (λ es. es ++ (other ++ drop (length front + length part) (front ++ (part ++ rest)))) (take_front front (part ++ rest))
      ∙ ap (λ es. front ++ (other ++ es))
      (ap (λ n. drop n (front ++ (part ++ rest))) (sym (length-append front part))
      ∙ (ap (drop (length (front ++ part))) (sym (append_assoc front part rest)) ∙ drop_front (front ++ part) rest))))

  -- a part with its first at its end, and with its last at its beginning
  abbrev pub turned_on : ℕ → ℕ → List X → List X
  turned_on a k xs = drop 1 (mid_of a k xs) ++ take 1 (mid_of a k xs)

  abbrev pub turned_back : ℕ → ℕ → List X → List X
  turned_back a k xs = drop (length (mid_of a k xs) - 1) (mid_of a k xs) ++ take (length (mid_of a k xs) - 1) (mid_of a k xs)

  -- the first of a part carried to its end
  pub first_to_last : (front : List X) (x : X) (bs rest ys : List X)
      → ys ≡ turned_on (length front) (suc (length bs)) (front ++ x ∷ (bs ++ rest))
      → put_mid (length front) (suc (length bs)) (front ++ x ∷ (bs ++ rest)) ys ≡ front ++ (bs ++ x ∷ rest)
  first_to_last front x bs rest ys turned =
      let is : ys ≡ bs ++ x ∷ [] = turned ∙ (ap (λ part. drop 1 part ++ take 1 part) (part_is front (x ∷ bs) rest) ∙ one bs) in
      part_put front (x ∷ bs) rest ys (ap length is ∙ (length-append bs (x ∷ []) ∙ (let e : length bs + 1 ≡ suc (length bs) = omega arith in e)))
      ∙ (ap (λ es. front ++ (es ++ rest)) is ∙ ap (λ es. front ++ es) (append_assoc bs (x ∷ []) rest))
    where
      one : (bs : List X) → drop 1 (x ∷ bs) ++ take 1 (x ∷ bs) ≡ bs ++ x ∷ []
      one [] = refl
      one (b ∷ bs) = refl

  -- the last carried to its beginning
  pub last_to_first : (front : List X) (x : X) (bs rest ys : List X)
      → ys ≡ turned_back (length front) (suc (length bs)) (front ++ (bs ++ x ∷ rest))
      → put_mid (length front) (suc (length bs)) (front ++ (bs ++ x ∷ rest)) ys ≡ front ++ x ∷ (bs ++ rest)
  last_to_first front x bs rest ys turned =
      let long : length (bs ++ x ∷ []) ≡ suc (length bs) = length-append bs (x ∷ []) ∙ (let e : length bs + 1 ≡ suc (length bs) = omega arith in e) in
      let less : length (bs ++ x ∷ []) - 1 ≡ length bs = omega (arith, long) in
      let whole : front ++ ((bs ++ x ∷ []) ++ rest) ≡ front ++ (bs ++ x ∷ rest) = ap (λ es. front ++ es) (append_assoc bs (x ∷ []) rest) in
      let part : mid_of (length front) (suc (length bs)) (front ++ (bs ++ x ∷ rest)) ≡ bs ++ x ∷ [] =
      ap (λ n. mid_of (length front) n (front ++ (bs ++ x ∷ rest))) (sym long) ∙ (ap (mid_of (length front) (length (bs ++ x ∷ []))) (sym whole) ∙ part_is front (bs ++ x ∷ []) rest) in
      let is : ys ≡ x ∷ bs = turned ∙ (ap (λ part. drop (length part - 1) part ++ take (length part - 1) part) part ∙ (ap (λ n. drop n (bs ++ x ∷ []) ++ take n (bs ++ x ∷ [])) less ∙ (ap (λ es. es ++ take (length bs) (bs ++ x ∷ [])) (drop_front bs (x ∷ [])) ∙ ap (λ es. x ∷ es) (take_front bs (x ∷ []))))) in
      ap (λ n. put_mid (length front) n (front ++ (bs ++ x ∷ rest)) ys) (sym long)
      ∙ (ap (λ es. put_mid (length front) (length (bs ++ x ∷ [])) es ys) (sym whole)
      ∙ (part_put front (bs ++ x ∷ []) rest ys (ap length is ∙ sym long)
      ∙ ap (λ es. front ++ (es ++ rest)) is))

  -- a list is what stands before a place, the one there, a part behind it and the rest
  pub split_after : (xs : List X) (a to : ℕ) (d : X) → a < to → to ≤ length xs
      → xs ≡ take a xs ++ get_or xs a d ∷ (slice_range xs (suc a) to ++ drop to xs)
  split_after xs a to d less le =
      split_at xs a d (omega arith) ∙ ap (λ es. take a xs ++ get_or xs a d ∷ es) (drop_split xs (suc a) to (omega arith))

  -- and what stands before a part, the part, the one behind it and the rest
  pub split_before : (xs : List X) (a at : ℕ) (d : X) → a ≤ at → at < length xs
      → xs ≡ take a xs ++ (slice_range xs a at ++ get_or xs at d ∷ drop (suc at) xs)
  split_before xs a at d le less =
      sym (together a xs)
      ∙ ap (λ es. take a xs ++ es) (drop_split xs a at le ∙ ap (λ es. slice_range xs a at ++ es) (drop_at xs at d less))
    where
      together : (n : ℕ) (ys : List X) → take n ys ++ drop n ys ≡ ys
      together zero [] = refl
      together zero (y ∷ ys) = refl
      together (suc n) [] = refl
      together (suc n) (y ∷ ys) = ap (λ zs. y ∷ zs) (together n ys)

      drop_at : (ys : List X) (n : ℕ) (d : X) → n < length ys → drop n ys ≡ get_or ys n d ∷ drop (suc n) ys
      drop_at [] n d less = absurd (omega arith)
      drop_at (y ∷ []) zero d less = refl
      drop_at (y ∷ z ∷ ys) zero d less = refl
      drop_at (y ∷ ys) (suc n) d less = drop_at ys n d (omega arith)

  -- nothing stands behind the end
  pub drop_all : (ys : List X) (k : ℕ) → length ys ≤ k → drop k ys ≡ []
  drop_all [] zero le = refl
  drop_all [] (suc k) le = refl
  drop_all (y ∷ ys) zero le = absurd (omega arith)
  drop_all (y ∷ ys) (suc k) le = drop_all ys k (omega arith)

  -- what is written to a whole list is the list
  pub written_back : (n : ℕ) (new old : List X) → length new ≡ n → length old ≡ n → take n (new ++ drop (length new) old) ≡ new
  written_back n new old is was =
      ap (λ es. take n (new ++ es)) (drop_all old (length new) (omega (arith, is, was)))
      ∙ (ap (take n) (append-nil new) ∙ (ap (λ k. take k new) (sym is) ∙ take_whole new))
    where
      take_whole : (ys : List X) → take (length ys) ys ≡ ys
      take_whole [] = refl
      take_whole (y ∷ ys) = ap (λ zs. y ∷ zs) (take_whole ys)
