-- How two whole paths lie to each other.
use Rattle.std.proofs.lemmas.Bool.{eq-eqb, cases_eq, cases_Bool}
use Rattle.std.proofs.Common.{◌≡◌, ◌⊎◌, inl, inr, ⊎_elim, ℕ, ◌<◌, ◌≤◌, zero, suc, false, List, [], ◌∷◌, length, take, Some, None, refl, sym, ap, ◌∙◌, arith, if◌then◌else◌, slice_index}
use Rattle.process_tree.specs.Order.{Each, PartsBelow, has}
use Rattle.process_tree.proofs.Every.{Each-weaker}
use Rattle.process_tree.proofs.Branches.{has_here, has_there, Each-has}
use Rattle.process_tree.proofs.Onward.{onward, onward_both, onward_has}

-- they are the same, or one parts below the other
abbrev pub Apart : List ℕ → List ℕ → Type 0
Apart p q = (p ≡ q) ⊎ (PartsBelow p q ⊎ PartsBelow q p)

-- what follows the first step
tail : List ℕ → List ℕ
tail [] = []
tail (x ∷ xs) = xs

-- where the first steps differ, all of one path is below the other's first step
pub differ : (x y : ℕ) (p q : List ℕ) → (x ≡ y → ⊥) → Apart (x ∷ p) (y ∷ q) → Each (λ z. z < y) (x ∷ p) ⊎ Each (λ z. z < x) (y ∷ q)
differ x y p q apart (inl e) = absurd (apart (cc))
differ x y p q apart (inr (inl (inl e))) = absurd (apart e.0)
differ x y p q apart (inr (inl (inr below))) = inl below
differ x y p q apart (inr (inr (inl e))) = absurd (apart (sym e.0))
differ x y p q apart (inr (inr (inr below))) = inr below

-- where they are the same, the rests lie so
pub rests : (x y : ℕ) (p q : List ℕ) → x ≡ y → Apart (x ∷ p) (y ∷ q) → Apart p q
unfolding tail
rests x y p q same (inl e) = inl (ap tail e)
rests x y p q same (inr (inl (inl e))) = inr (inl e.1)
rests x y p q same (inr (inl (inr below))) = let lt : x < y = below.0 in absurd (omega arith)
rests x y p q same (inr (inr (inl e))) = inr (inr e.1)
rests x y p q same (inr (inr (inr below))) = let lt : y < x = below.0 in absurd (omega arith)

-- no path is another's beginning
pub not_over : (x : ℕ) (p : List ℕ) → Apart (x ∷ p) [] → ⊥
not_over x p (inl e) = cc
not_over x p (inr (inl e)) = e
not_over x p (inr (inr e)) = e

-- a path that leaves v at a later step goes on above all that the others have there
pub beyond : (v p q : List ℕ) (j x d : ℕ) → Apart p q → onward v p ≡ Some x → onward (take j v) q ≡ Some d → j < length v → slice_index v j < d → x < d
beyond [] p q j x d apart on along lt up = absurd (omega arith)
beyond (y ∷ v) [] q j x d apart on along lt up = absurd (cc)
beyond (y ∷ v) (z ∷ p) [] j x d apart on along lt up = absurd (not_over z p apart)
beyond (y ∷ v) (z ∷ p) (u ∷ q) zero x d apart on along lt up =
    let both = onward_both y z x v p on in
    let is : u ≡ d = (let e : Some u ≡ Some d = along in cc) in
    let first : y < d = up in
    let same : y ≡ z = both.0 in
    ⊎_elim
    (λ below. let less : x < u = Each-has (λ z. z < u) (z ∷ p) x below (has_there x z p (onward_has v p x both.1)) in omega arith)
    (λ below. let less : u < z = below.0 in absurd (omega arith))
    (differ z u p q (λ e. omega arith) apart)
beyond (y ∷ v) (z ∷ p) (u ∷ q) (suc j) x d apart on along lt up =
    let both = onward_both y z x v p on in
    let too = onward_both y u d (take j v) q along in
    beyond v p q j x d (rests z u p q (sym both.0 ∙ too.0) apart) both.1 too.1 (omega arith) up

-- where a path without b leaves the branch to it: there it goes on above b, or it is all below
pub leaves : (w p q : List ℕ) (b : ℕ) → Apart p q → Each (λ x. x < b) w → onward w p ≡ Some b → has b q ≡ false
    → (j : ℕ) × (d : ℕ) × (j ≤ length w) × (onward (take j w) q ≡ Some d) × ((b < d) ⊎ Each (λ z. z < b) q)
leaves [] [] q b apart below on off = absurd (cc)
leaves [] (z ∷ p) [] b apart below on off = absurd (not_over z p apart)
leaves [] (z ∷ p) (u ∷ q) b apart below on off =
    let is : z ≡ b = (let e : Some z ≡ Some b = on in cc) in (
      0,
      u,
      omega arith,
      refl,
      ⊎_elim
          (λ under. inl (let less : z < u = under.0 in omega arith))
          (λ under. inr (Each-weaker (λ x. x < z) (λ x. x < b) (λ x lt. omega arith) (u ∷ q) under))
          (differ z u p q (λ e. let t = has_here b u q (sym is ∙ e) in cc) apart),
    )
leaves (y ∷ w) [] q b apart below on off = absurd (cc)
leaves (y ∷ w) (z ∷ p) [] b apart below on off = absurd (not_over z p apart)
leaves (y ∷ w) (z ∷ p) (u ∷ q) b apart below on off =
    let both = onward_both y z b w p on in
    let first : y < b = below.0 in
    let same : y ≡ z = both.0 in
    ⊎_elim
    (λ e.
    let off' = ⊎_elim (λ t. let h = has_there b u q t in absurd (cc)) (λ f. f) (cases_Bool (has b q)) in
    let r = leaves w p q b (rests z u p q e apart) below.1 both.1 off' in (
      suc r.0,
      r.1,
      omega (arith, r.2),
      ap (λ t. if t then onward (take r.0 w) q else None) (eq-eqb y u (same ∙ e)) ∙ r.3,
      ⊎_elim (λ lt. inl lt) (λ all. inr ((omega arith), all)) r.4,
    ))
    (λ n. (
      0,
      u,
      omega arith,
      refl,
      ⊎_elim
          (λ under. inl (Each-has (λ x. x < u) (z ∷ p) b under (has_there b z p (onward_has w p b both.1))))
          (λ under. inr (Each-weaker (λ x. x < z) (λ x. x < b) (λ x lt. omega arith) (u ∷ q) under))
          (differ z u p q n apart),
    ))
    (cases_eq z u)

-- a path with b has the steps before it
pub onward_at : (w p : List ℕ) (b k : ℕ) → onward w p ≡ Some b → k < length w → onward (take k w) p ≡ Some (slice_index w k)
onward_at [] p b k on lt = absurd (omega arith)
onward_at (x ∷ w) [] b k on lt = absurd (cc)
onward_at (x ∷ w) (y ∷ p) b zero on lt = ap Some (sym (onward_both x y b w p on).0)
onward_at (x ∷ w) (y ∷ p) b (suc k) on lt =
    let both = onward_both x y b w p on in
    ap (λ t. if t then onward (take k w) p else None) (eq-eqb x y both.0) ∙ onward_at w p b k both.1 (omega arith)
