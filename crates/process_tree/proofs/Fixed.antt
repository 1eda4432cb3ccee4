-- Commit points stay while steps are added.
use Rattle.std.proofs.Common.{◌≡◌, ⊎_elim, ℕ, zero, suc, ◌+◌, ◌≤◌, Bool, true, false, List, [], ◌∷◌, ◌++◌, length, take, refl, sym, ap, ◌∙◌, subst, arith, append-nil, append_assoc, length-append, if◌then◌else◌}
use Rattle.std.proofs.lemmas.Bool.{cases_Bool}
use Rattle.process_tree.specs.Shape.{Shape, branch_to, commits, commits_behind, commits_after, fixed_len, fixed_from}

-- the steps of two lists, one after another
fixed_from-append : (t : Shape) (v w u : List ℕ) (fixed : ℕ) → fixed_from t v (w ++ u) fixed ≡ fixed_from t (v ++ w) u (fixed_from t v w fixed)
fixed_from-append t v [] u fixed = ap (λ x. fixed_from t x u fixed) (sym (append-nil v))
fixed_from-append t v (b ∷ w) u fixed =
    let next = if commits_behind t v fixed b then length v + 1 else fixed in
    fixed_from-append t (v ++ b ∷ []) w u next ∙ ap (λ x. fixed_from t x u (fixed_from t (v ++ b ∷ []) w next)) (append_assoc v (b ∷ []) w)

fixed_len-append : (t : Shape) (w u : List ℕ) → fixed_len t (w ++ u) ≡ fixed_from t w u (fixed_len t w)
fixed_len-append t w u = fixed_from-append t [] w u 0

-- no fewer are fixed than before
pub fixed_from-ge : (t : Shape) (v w : List ℕ) (fixed : ℕ) → fixed ≤ length v → fixed ≤ fixed_from t v w fixed
fixed_from-ge t v [] fixed le = omega arith
fixed_from-ge t v (b ∷ w) fixed le = by_commit (commits_behind t v fixed b) (λ fixed le. fixed_from-ge t (v ++ b ∷ []) w fixed le)
  where
    by_commit : (c : Bool) → ((fixed : ℕ) → fixed ≤ length (v ++ b ∷ []) → fixed ≤ fixed_from t (v ++ b ∷ []) w fixed) → fixed ≤ fixed_from t (v ++ b ∷ []) w (if c then length v + 1 else fixed)
    by_commit true below = let long = length-append v (b ∷ []) in omega (arith, below (length v + 1) (omega arith))
    by_commit false below = let long = length-append v (b ∷ []) in below fixed (omega arith)

-- and no more than there are
pub fixed_from-le : (t : Shape) (v w : List ℕ) (fixed : ℕ) → fixed ≤ length v → fixed_from t v w fixed ≤ length v + length w
fixed_from-le t v [] fixed le = omega arith
fixed_from-le t v (b ∷ w) fixed le = by_commit (commits_behind t v fixed b) (λ fixed le. fixed_from-le t (v ++ b ∷ []) w fixed le)
  where
    by_commit : (c : Bool) → ((fixed : ℕ) → fixed ≤ length (v ++ b ∷ []) → fixed_from t (v ++ b ∷ []) w fixed ≤ length (v ++ b ∷ []) + length w) → fixed_from t (v ++ b ∷ []) w (if c then length v + 1 else fixed) ≤ length v + length (b ∷ w)
    by_commit true below = let long = length-append v (b ∷ []) in omega (arith, below (length v + 1) (omega arith))
    by_commit false below = let long = length-append v (b ∷ []) in omega (arith, below fixed (omega arith))

-- no more steps are fixed than there are
pub fixed_le : (t : Shape) (w : List ℕ) → fixed_len t w ≤ length w
fixed_le t w = omega (arith, fixed_from-le t [] w 0 (omega arith))

-- a commit point stays one while steps are added
pub fixed_stays : (t : Shape) (w v : List ℕ) → fixed_len t w ≤ fixed_len t (w ++ v)
fixed_stays t w v =
    let more = fixed_len-append t w v in
    let high = fixed_from-ge t w v (fixed_len t w) (fixed_le t w) in
    omega arith

-- with one step more, all is fixed if it commits, and else what was
pub fixed_more : (t : Shape) (w : List ℕ) (d : ℕ) → fixed_len t (w ++ d ∷ []) ≡ (if commits_after t w d then length w + 1 else fixed_len t w)
fixed_more t w d = fixed_len-append t w (d ∷ [])

-- a step commits behind its branch where it does so on it
pub commits_there : (t : Shape) (w : List ℕ) (d : ℕ) → branch_to t d ≡ w → commits_after t w d ≡ commits t d
commits_there t w d is = ap (λ v. commits_after t v d) (sym is)

-- what holds of no steps and is kept by one more holds of each list
pub by_last : (P : List ℕ → Type 0) → P [] → ((w : List ℕ) (b : ℕ) → P w → P (w ++ b ∷ [])) → (w : List ℕ) → P w
by_last P nothing more w = from [] w nothing
  where
    from : (v w : List ℕ) → P v → P (v ++ w)
    from v [] has = subst P (sym (append-nil v)) has
    from v (b ∷ w) has = subst P (append_assoc v (b ∷ []) w) (from (v ++ b ∷ []) w (more v b has))

pub take_whole : (xs : List ℕ) (j : ℕ) → length xs ≤ j → take j xs ≡ xs
take_whole [] zero le = refl
take_whole [] (suc j) le = refl
take_whole (x ∷ xs) zero le = absurd (omega arith)
take_whole (x ∷ xs) (suc j) le = ap (λ ys. x ∷ ys) (take_whole xs j (omega arith))

-- the first of two lists that follow each other
pub take_front : (j : ℕ) (xs ys : List ℕ) → j ≤ length xs → take j (xs ++ ys) ≡ take j xs
take_front zero [] ys le = take_none ys
  where
    take_none : (zs : List ℕ) → take zero zs ≡ []
    take_none [] = refl
    take_none (z ∷ zs) = refl
take_front zero (x ∷ xs) ys le = refl
take_front (suc j) [] ys le = absurd (omega arith)
take_front (suc j) (x ∷ xs) ys le = ap (λ zs. x ∷ zs) (take_front j xs ys (omega arith))

-- what is kept up to the last commit point is all fixed
pub fixed_take : (t : Shape) (w : List ℕ) → fixed_len t (take (fixed_len t w) w) ≡ fixed_len t w
fixed_take t = by_last (λ w. fixed_len t (take (fixed_len t w) w) ≡ fixed_len t w) refl more
  where
    more : (w : List ℕ) (b : ℕ) → fixed_len t (take (fixed_len t w) w) ≡ fixed_len t w → fixed_len t (take (fixed_len t (w ++ b ∷ [])) (w ++ b ∷ [])) ≡ fixed_len t (w ++ b ∷ [])
    more w b before =
        ⊎_elim
        (λ yes.
        let all = fixed_more t w b ∙ ap (λ c. if c then length w + 1 else fixed_len t w) yes in
        let long = length-append w (b ∷ []) in
        ap (fixed_len t) (take_whole (w ++ b ∷ []) (fixed_len t (w ++ b ∷ [])) (omega arith)))
        (λ no.
        let same = fixed_more t w b ∙ ap (λ c. if c then length w + 1 else fixed_len t w) no in
        ap (fixed_len t) (ap (λ n. take n (w ++ b ∷ [])) same ∙ take_front (fixed_len t w) w (b ∷ []) (fixed_le t w)) ∙ (before ∙ sym same))
        (cases_Bool (commits_after t w b))
