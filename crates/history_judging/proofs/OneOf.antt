-- One of some rising numbers, and the others.
use Rattle.std.proofs.Common.{◌≡◌, inl, inr, ⊎_elim, ℕ, ◌+◌, Bool, true, false, not, eqb, ltb, cond, List, [], ◌∷◌, ◌++◌, length, filter, sym, refl, ap, ◌∙◌, arith, length-append}
use Rattle.std.specs.Bool.{IsTrue}
use Rattle.std.specs.List.{sum_by}
use Rattle.std.proofs.lemmas.Bool.{eq-eqb, eqb-true, false≢true, ltb-true, ne_eqb, or_cases}
use Rattle.std.proofs.lemmas.List.Sums.{sum_by-append, sum_by-cons}
use Rattle.schedule_model.specs.Histories.{is_in}
use Rattle.schedule_model.proofs.Members.{Among, all-among}
use Rattle.schedule_model.proofs.Rising.{Rising}
use Rattle.schedule_rules.proofs.ListTests.{all_pass}

-- the numbers before it and those behind it
pub record OneOf (p : ℕ) (xs : List ℕ) : Type 0 where
  pub front : List ℕ
  pub back : List ℕ
  pub is : xs ≡ front ++ p ∷ back
  pub others : filter (λ k. not (eqb k p)) xs ≡ front ++ back
  pub front_others : (k : ℕ) → Among k front → eqb k p ≡ false
  pub back_others : (k : ℕ) → Among k back → eqb k p ≡ false

pub one_of : (p : ℕ) (xs : List ℕ) → Rising xs → IsTrue (is_in p xs) → OneOf p xs
one_of p [] rising is = absurd (false≢true is)
one_of p (x ∷ xs) rising is = by_first (eqb p x) refl (one_of p xs rising.1)
  where
    away : (k : ℕ) → Among k xs → p ≡ x → eqb k p ≡ false
    away k there same = let l = ltb-true x k (all-among (λ y. ltb x y) xs rising.0 k there) in ne_eqb k p (λ e. omega arith)

    by_first : (t : Bool) → eqb p x ≡ t → (IsTrue (is_in p xs) → OneOf p xs) → OneOf p (x ∷ xs)
    by_first true here rest =
        let same = eqb-true p x here in
        record {
          front = [];
          back = xs;
          is = ap (λ y. y ∷ xs) (sym same);
          others = ap (λ t. cond (not t) (x ∷ filter (λ k. not (eqb k p)) xs) (filter (λ k. not (eqb k p)) xs)) (eq-eqb x p (sym same))
              ∙ all_pass (λ k. not (eqb k p)) xs (λ k there. ap not (away k there same));
          front_others = λ k none. absurd none;
          back_others = λ k there. away k there same;
        }
    by_first false other rest =
        let r = rest (⊎_elim (λ here. absurd (false≢true (sym other ∙ here))) (λ later. later) (or_cases (eqb p x) (is_in p xs) is)) in
        let apart : eqb x p ≡ false = ne_eqb x p (λ e. false≢true (sym other ∙ eq-eqb p x (sym e))) in
        record {
          front = x ∷ r.front;
          back = r.back;
          is = ap (λ ys. x ∷ ys) r.is;
          others = ap (λ t. cond (not t) (x ∷ filter (λ k. not (eqb k p)) xs) (filter (λ k. not (eqb k p)) xs)) apart ∙ ap (λ ys. x ∷ ys) r.others;
          front_others = λ k there. ⊎_elim (λ here. ap (λ n. eqb n p) (sym here) ∙ apart) (λ later. r.front_others k later) there;
          back_others = r.back_others;
        }

pub sum_same : (f g : ℕ → ℕ) (xs : List ℕ) → ((k : ℕ) → Among k xs → f k ≡ g k) → sum_by f xs ≡ sum_by g xs
sum_same f g [] same = refl
sum_same f g (x ∷ xs) same =
    let here = same x (inl refl) in
    let rest = sum_same f g xs (λ k is. same k (inr is)) in
    let one = sum_by-cons f x xs in
    let two = sum_by-cons g x xs in
    omega arith

module _ (p : ℕ) (xs : List ℕ) (o : OneOf p xs) where
  -- without it there is one less
  pub count-without : length (filter (λ k. not (eqb k p)) xs) + 1 ≡ length xs
  count-without =
      let whole = ap length o.is in
      let part = ap length o.others in
      let one = length-append o.front (p ∷ o.back) in
      let two = length-append o.front o.back in
      omega arith

  -- and the sum is less by what it adds
  pub sum-without : (f : ℕ → ℕ) → sum_by f (filter (λ k. not (eqb k p)) xs) + f p ≡ sum_by f xs
  sum-without f =
      let whole = ap (sum_by f) o.is in
      let part = ap (sum_by f) o.others in
      let one = sum_by-append f o.front (p ∷ o.back) in
      let two = sum_by-append f o.front o.back in
      let three = sum_by-cons f p o.back in
      omega arith

  -- where it alone adds one less, the sum is one less
  pub sum-less : (f g : ℕ → ℕ) → ((k : ℕ) → eqb k p ≡ false → g k ≡ f k) → g p + 1 ≡ f p → sum_by g xs + 1 ≡ sum_by f xs
  sum-less f g same less =
      let whole_f = ap (sum_by f) o.is in
      let whole_g = ap (sum_by g) o.is in
      let one_f = sum_by-append f o.front (p ∷ o.back) in
      let one_g = sum_by-append g o.front (p ∷ o.back) in
      let two_f = sum_by-cons f p o.back in
      let two_g = sum_by-cons g p o.back in
      let fronts = sum_same g f o.front (λ k is. same k (o.front_others k is)) in
      let backs = sum_same g f o.back (λ k is. same k (o.back_others k is)) in
      omega arith
