-- Fronts of lists that grow, and what is left behind a front.
use Rattle.std.proofs.Common.{◌≡◌, ℕ, zero, suc, ◌+◌, ◌-◌, ◌≤◌, List, [], ◌∷◌, ◌++◌, length, take, drop, Some, arith, sym, ap, ◌∙◌, refl, length-append, length-drop}
use Rattle.std.proofs.lemmas.List.{take_all, drop-drop}
use Rattle.std.proofs.Math.Seq.{drop-append-add}
use Rattle.trace_verify.specs.Lines.{cut}
use Rattle.line_reader.proofs.Cuts.{cut-whole}

-- of a front and more bytes, as many as there is room for
pub take_more : (m : ℕ) (xs ys : List ℕ) → take m xs ++ take (m - length (take m xs)) ys ≡ take m (xs ++ ys)
take_more zero xs ys = refl
take_more (suc m) [] ys = let all : suc m - 0 ≡ suc m = omega arith in ap (λ n. take n ys) all
take_more (suc m) (x ∷ xs) ys =
    let room : suc m - suc (length (take m xs)) ≡ m - length (take m xs) = omega arith in
    ap (λ n. x ∷ (take m xs ++ take n ys)) room ∙ ap (λ zs. x ∷ zs) (take_more m xs ys)

-- the rest from a place on, as a range gives it
pub rest_is : (xs : List ℕ) (a : ℕ) → take (length xs - a) (drop a xs) ≡ drop a xs
rest_is xs a = take_all (length xs - a) (drop a xs) (omega (arith, length-drop a xs))

-- what stands behind a front and one byte
pub drop_front : (front left : List ℕ) (b : ℕ) → drop (length front + 1) (front ++ (b ∷ left)) ≡ left
drop_front front left b = drop-append-add front (b ∷ left) 1

-- a cut of what is left at a place leaves what is left at a later place
pub cut_left : (bytes front left : List ℕ) (at b : ℕ) → cut b (drop at bytes) ≡ Some (front, left) → drop (at + (length front + 1)) bytes ≡ left
cut_left bytes front left at b e = sym (drop-drop (length front + 1) at bytes) ∙ (ap (drop (length front + 1)) (cut-whole b (drop at bytes) front left e) ∙ drop_front front left b)

-- which is within
pub cut_within : (bytes front left : List ℕ) (at b : ℕ) → at ≤ length bytes → cut b (drop at bytes) ≡ Some (front, left) → at + (length front + 1) ≤ length bytes
cut_within bytes front left at b within e =
    let whole = cut-whole b (drop at bytes) front left e in
    omega (arith, ap length whole, length-drop at bytes, length-append front (b ∷ left))
