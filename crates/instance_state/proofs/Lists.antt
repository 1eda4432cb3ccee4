-- Lists of steps: what passes a test, what stands at a place, and the last.
use Rattle.std.proofs.Common.{◌≡◌, ⊎_elim, ℕ, ◌+◌, ◌<◌, ◌≤◌, zero, suc, Bool, true, false, List, [], ◌∷◌, ◌++◌, length, take, filter, cond, Some, None, refl, sym, ap, ◌∙◌, arith, slice_index_or}
use Rattle.process_tree.specs.Order.{Each, has}
use Rattle.process_tree.specs.Shape.{least, last_of}
use Rattle.process_tree.proofs.Branches.{has_cases, has_here, has_there}
use Rattle.process_tree.proofs.Numbers.{least_some}

-- what passes a test is on the list, and passes
pub in_filter : (q : ℕ → Bool) (d : ℕ) (xs : List ℕ) → has d (filter q xs) ≡ true → (has d xs ≡ true) × (q d ≡ true)
in_filter q d [] on = absurd (cc)
in_filter q d (x ∷ xs) on = by_test (q x) refl (λ h. in_filter q d xs h)
  where
    by_test : (t : Bool) → q x ≡ t → (has d (filter q xs) ≡ true → (has d xs ≡ true) × (q d ≡ true)) → (has d (x ∷ xs) ≡ true) × (q d ≡ true)
    by_test true is below =
        ⊎_elim
        (λ e. (has_here d x xs e, ap q e ∙ is))
        (λ rest. let r = below rest.1 in (has_there d x xs r.0, r.1))
        (has_cases d x (filter q xs) (sym (ap (λ t. has d (cond t (x ∷ filter q xs) (filter q xs))) is) ∙ on))
    by_test false is below =
        let r = below (sym (ap (λ t. has d (cond t (x ∷ filter q xs) (filter q xs))) is) ∙ on) in
        (has_there d x xs r.0, r.1)

pub to_filter : (q : ℕ → Bool) (d : ℕ) (xs : List ℕ) → has d xs ≡ true → q d ≡ true → has d (filter q xs) ≡ true
to_filter q d [] on passes = absurd (cc)
to_filter q d (x ∷ xs) on passes = by_test (q x) refl (λ h. to_filter q d xs h passes)
  where
    by_test : (t : Bool) → q x ≡ t → (has d xs ≡ true → has d (filter q xs) ≡ true) → has d (filter q (x ∷ xs)) ≡ true
    by_test true is below =
        ap (λ t. has d (cond t (x ∷ filter q xs) (filter q xs))) is
        ∙ ⊎_elim (λ e. has_here d x (filter q xs) e) (λ rest. has_there d x (filter q xs) (below rest.1)) (has_cases d x xs on)
    by_test false is below =
        ap (λ t. has d (cond t (x ∷ filter q xs) (filter q xs))) is
        ∙ ⊎_elim (λ e. let f = sym (ap q e) ∙ passes in absurd (cc)) (λ rest. below rest.1) (has_cases d x xs on)

-- a list with nothing on it has no least
pub least_none : (xs : List ℕ) → ((e : ℕ) → has e xs ≡ true → ⊥) → least xs ≡ None
least_none [] none = refl
least_none (x ∷ xs) none = absurd (none x (has_here x x xs refl))

-- and the other way round
pub none_least : (xs : List ℕ) → least xs ≡ None → xs ≡ []
none_least [] is = refl
none_least (x ∷ xs) is = let some = least_some x xs in absurd (cc)

-- what stands behind the first k
pub record SplitAt (k : ℕ) (w : List ℕ) : Type 0 where
  pub here : ℕ
  pub rest : List ℕ
  pub is : w ≡ take k w ++ here ∷ rest

pub split_at : (k : ℕ) (w : List ℕ) → k < length w → SplitAt k w
split_at k [] lt = absurd (omega arith)
split_at zero (x ∷ w) lt = record { here = x; rest = w; is = refl }
split_at (suc k) (x ∷ w) lt =
    let s = split_at k w (omega arith) in
    record { here = s.here; rest = s.rest; is = ap (λ u. x ∷ u) s.is }

-- the last by its place
pub last_at : (x : ℕ) (xs : List ℕ) (d : ℕ) → last_of (x ∷ xs) ≡ Some (slice_index_or (x ∷ xs) (length xs) d)
last_at x [] d = refl
last_at x (y ∷ xs) d = last_at y xs d

pub last_of_is : (xs : List ℕ) (n d : ℕ) → n + 1 ≡ length xs → Some (slice_index_or xs n d) ≡ last_of xs
last_of_is [] n d is = absurd (omega arith)
last_of_is (x ∷ xs) n d is = let same : n ≡ length xs = omega arith in ap (λ k. Some (slice_index_or (x ∷ xs) k d)) same ∙ sym (last_at x xs d)

pub last_push : (v : List ℕ) (b : ℕ) → last_of (v ++ b ∷ []) ≡ Some b
last_push [] b = refl
last_push (x ∷ []) b = refl
last_push (x ∷ y ∷ v) b = last_push (y ∷ v) b

-- beginnings of a list with one more
pub take_all : (w : List ℕ) (k : ℕ) → length w ≤ k → take k w ≡ w
take_all [] zero le = refl
take_all [] (suc k) le = refl
take_all (x ∷ w) zero le = absurd (omega arith)
take_all (x ∷ w) (suc k) le = ap (λ u. x ∷ u) (take_all w k (omega arith))

pub take_push : (v : List ℕ) (b k : ℕ) → k ≤ length v → take k (v ++ b ∷ []) ≡ take k v
take_push v b zero le = refl
take_push [] b (suc k) le = absurd (omega arith)
take_push (x ∷ v) b (suc k) le = ap (λ u. x ∷ u) (take_push v b k (omega arith))

pub length_push : (v : List ℕ) (b : ℕ) → length (v ++ b ∷ []) ≡ length v + 1
length_push [] b = refl
length_push (x ∷ v) b = let e = length_push v b in omega arith

-- one behind others that are less is the greatest
pub below_last : (v : List ℕ) (b x : ℕ) → Each (λ y. y < b) v → has x (v ++ b ∷ []) ≡ true → x ≤ b
below_last [] b x low on = ⊎_elim (λ e. omega arith) (λ rest. absurd (let f = rest.1 in cc)) (has_cases x b [] on)
below_last (y ∷ v) b x low on =
    ⊎_elim (λ e. let lt : y < b = low.0 in omega arith) (λ rest. below_last v b x low.1 rest.1) (has_cases x y (v ++ b ∷ []) on)
