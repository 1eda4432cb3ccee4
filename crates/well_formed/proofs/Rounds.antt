-- Paths are judged one after another, and on each the steps from its beginning.
use Rattle.process_tree.proofs.Fixed.{fixed_le, fixed_more, take_whole, take_front}
use Rattle.std.proofs.lemmas.Bool.{eq-eqb, ne_eqb}
use Rattle.std.proofs.Common.{◌≡◌, ◌⊎◌, inl, inr, ⊎_elim, subst, ℕ, ◌+◌, ◌<◌, ◌≤◌, zero, suc, Bool, true, false, List, [], ◌∷◌, ◌++◌, length, take, Some, None, refl, sym, ap, ◌∙◌, arith, if◌then◌else◌, slice_index, slice_index_or, take_all, add-one, drop, append_assoc, length-append, nat_eq}
use Rattle.std.proofs.Math.Seq.{take-suc, drop-append_seam}
use Rattle.std.proofs.lemmas.List.{length-take-le}
use Rattle.process_tree.specs.Order.{Each, IsRising, PartsBelow, AreInOrder, has}
use Rattle.process_tree.specs.Shape.{Shape, goes_on_to, branch_to, kind_of, commits_by_kind, commits_behind, commits_after, fixed_len, last_after, owed_from}
use Rattle.process_tree.proofs.Every.{Each-append}
use Rattle.process_tree.proofs.Branches.{has_cases, has_here, has_there, Each-has, Among, Each-among}
use Rattle.process_tree.proofs.Onward.{onward, onward_has, goes_along, goes_on}
use Rattle.well_formed.specs.Flaws.{IsOrderly, IsSound, IsSoundBelow}
use Rattle.well_formed.specs.Spots.{stands_at, last_through}
use Rattle.well_formed.proofs.LastThrough.{IsLastWith, IsThrough, through_is, still_through, stands_or_has}

-- what each of a list has, each of its beginnings has
pub Each-take : {A : Type 0} (P : A → Type 0) (n : ℕ) (xs : List A) → Each P xs → Each P (take n xs)
Each-take P zero xs h = tt
Each-take P (suc n) [] h = tt
Each-take P (suc n) (x ∷ xs) h = (h.0, Each-take P n xs h.1)

-- and each of a beginning, one of its steps
pub Each-taken : (P : ℕ → Type 0) (n k : ℕ) (p : List ℕ) → Each P (take n p) → k < n → k < length p → P (slice_index p k)
Each-taken P n k [] h lt inside = absurd (omega arith)
Each-taken P zero k (x ∷ p) h lt inside = absurd (omega arith)
Each-taken P (suc n) zero (x ∷ p) h lt inside = h.0
Each-taken P (suc n) (suc k) (x ∷ p) h lt inside = Each-taken P n k p h.1 (omega arith) (omega arith)

-- and each of all, one that stands at a place
pub Each-at : {A : Type 0} (P : A → Type 0) (xs : List A) (k : ℕ) (d : A) → k < length xs → Each P xs → P (slice_index_or xs k d)
Each-at P [] k d lt h = absurd (omega arith)
Each-at P (x ∷ xs) zero d lt h = h.0
Each-at P (x ∷ xs) (suc k) d lt h = Each-at P xs k d (omega arith) h.1

-- one more
pub Each-next : {A : Type 0} (P : A → Type 0) (k : ℕ) (xs : List A) (d : A) → k < length xs → Each P (take k xs) → P (slice_index_or xs k d) → Each P (take (k + 1) xs)
Each-next P k xs d lt h one = subst (Each P) (sym (ap (λ n. take n xs) (add-one k) ∙ take-suc xs k d lt)) (Each-append P (take k xs) (slice_index_or xs k d ∷ []) h (one, tt))

-- all
pub Each-all : {A : Type 0} (P : A → Type 0) (k : ℕ) (xs : List A) → length xs ≤ k → Each P (take k xs) → Each P xs
Each-all P k xs le h = subst (Each P) (take_all k xs le) h

-- the path at a place
pub nth_among : (ps : List (List ℕ)) (at : ℕ) → at < length ps → Among (slice_index_or ps at []) ps
nth_among [] at lt = absurd (omega arith)
nth_among (p ∷ ps) zero lt = inl refl
nth_among (p ∷ ps) (suc at) lt = inr (nth_among ps at (omega arith))

-- a path is one before that place, or the one there, or one below which that parts
pub split_at : (ps : List (List ℕ)) (at : ℕ) (q : List ℕ) → at < length ps → AreInOrder ps → Among q ps → Among q (take at ps) ⊎ ((slice_index_or ps at [] ≡ q) ⊎ PartsBelow (slice_index_or ps at []) q)
split_at [] at q lt order inq = absurd (omega arith)
split_at (p ∷ ps) zero q lt order inq = ⊎_elim (λ e. inr (inl (sym e))) (λ later. inr (inr (Each-among (PartsBelow p) ps q order.0 later))) inq
split_at (p ∷ ps) (suc at) q lt order inq =
    ⊎_elim
    (λ e. inl (inl e))
    (λ later. ⊎_elim (λ before. inl (inr before)) (λ rest. inr rest) (split_at ps at q (omega arith) order.1 later))
    inq

-- a path goes on from its beginnings
pub self_onward : (p : List ℕ) (k : ℕ) → k < length p → onward (take k p) p ≡ Some (slice_index p k)
self_onward [] k lt = absurd (omega arith)
self_onward (x ∷ p) zero lt = refl
self_onward (x ∷ p) (suc k) lt = ap (λ t. if t then onward (take k p) p else None) (eq-eqb x x refl) ∙ self_onward p k (omega arith)

-- each step of a path goes on from those before it
pub on_at : (t : Shape) (at k : ℕ) (p : List ℕ) → at < length t.paths → p ≡ slice_index_or t.paths at [] → k < length p → goes_on_to t (take k p) (slice_index p k) ≡ true
on_at t at k p lt is inside = goes_on t (take k p) (slice_index p k) p (subst (λ q. Among q t.paths) (sym is) (nth_among t.paths at lt)) (self_onward p k inside)

-- a step of a rising path below one of it stands before that
pub stands_before : (p : List ℕ) (k y : ℕ) → IsRising p → k < length p → has y p ≡ true → y < slice_index p k → has y (take k p) ≡ true
stands_before [] k y rise lt on less = absurd (omega arith)
stands_before (x ∷ p) zero y rise lt on less =
    absurd (⊎_elim (λ e. let same : y ≡ x = e in omega arith) (λ rest. let up : x < y = Each-has (λ z. x < z) p y rise.0 rest.1 in omega arith) (has_cases y x p on))
stands_before (x ∷ p) (suc k) y rise lt on less =
    ⊎_elim
    (λ e. has_here y x (take k p) e)
    (λ rest. has_there y x (take k p) (stands_before p k y rise.1 (omega arith) rest.1 less))
    (has_cases y x p on)

-- a step of a later path below one of this is on this too
pub on_this_too : (p q : List ℕ) (d y : ℕ) → PartsBelow p q → IsRising q → has d p ≡ true → has y q ≡ true → y < d → has y p ≡ true
on_this_too [] q d y part rise on on_q lt = absurd part
on_this_too (x ∷ p) [] d y part rise on on_q lt = absurd part
on_this_too (x ∷ p) (z ∷ q) d y (inl both) rise on on_q lt =
    ⊎_elim
    (λ e. has_here y x p (e ∙ sym both.0))
    (λ rest. ⊎_elim
    (λ here. absurd (let up : z < y = Each-has (λ u. z < u) q y rise.0 rest.1 in let same : d ≡ x = here in let first : x ≡ z = both.0 in omega arith))
    (λ later. has_there y x p (on_this_too p q d y both.1 rise.1 later.1 rest.1 lt))
    (has_cases d x p on))
    (has_cases y z q on_q)
on_this_too (x ∷ p) (z ∷ q) d y (inr below) rise on on_q lt =
    let up : d < z = Each-has (λ u. u < z) (x ∷ p) d below on in
    absurd (⊎_elim (λ e. let same : y ≡ z = e in omega arith) (λ rest. let high : z < y = Each-has (λ u. z < u) q y rise.0 rest.1 in omega arith) (has_cases y z q on_q))

-- where the paths before one and the steps before one of it are sound, all steps below it are
pub sound_below : (t : Shape) (at k : ℕ) (p : List ℕ) → IsOrderly t → at < length t.paths → p ≡ slice_index_or t.paths at [] → k < length p → Each (Each (IsSound t)) (take at t.paths) → Each (IsSound t) (take k p) → IsSoundBelow t (slice_index p k)
sound_below t at k p o lt is inside earlier before y less on =
    ⊎_elim
    (λ one. Each-has (IsSound t) q y (Each-among (Each (IsSound t)) (take at t.paths) q earlier one) on_q)
    (λ rest. Each-has (IsSound t) (take k p) y before (stands_before p k y rise_p inside (⊎_elim (λ same. ap (has y) (is ∙ same) ∙ on_q) (λ part. this part) rest) less))
    (split_at t.paths at q lt o.in_order along.1)
  where
    along : (q : List ℕ) × Among q t.paths × (onward (branch_to t y) q ≡ Some y)
    along = goes_along t (branch_to t y) y on

    q : List ℕ
    q = along.0

    on_q : has y q ≡ true
    on_q = onward_has (branch_to t y) q y along.2

    in_p : Among p t.paths
    in_p = subst (λ q. Among q t.paths) (sym is) (nth_among t.paths at lt)

    rise_p : IsRising p
    rise_p = Each-among IsRising t.paths p o.rising in_p

    this : PartsBelow (slice_index_or t.paths at []) q → has y p ≡ true
    this part =
        on_this_too p q (slice_index p k) y (subst (λ r. PartsBelow r q) (sym is) part) (Each-among IsRising t.paths q o.rising along.1) (onward_has (take k p) p (slice_index p k) (self_onward p k inside)) on_q less

-- within a list the default doesn't matter
pub path_at : (ps : List (List ℕ)) (at : ℕ) (r p : List ℕ) → at < length ps → r ≡ slice_index_or ps at r → p ≡ r → p ≡ slice_index_or ps at []
path_at ps at r p lt is same = same ∙ is ∙ default_free ps at r lt
  where
    default_free : (ps : List (List ℕ)) (at : ℕ) (r : List ℕ) → at < length ps → slice_index_or ps at r ≡ slice_index_or ps at []
    default_free [] at r lt = absurd (omega arith)
    default_free (p ∷ ps) zero r lt = refl
    default_free (p ∷ ps) (suc at) r lt = default_free ps at r (omega arith)

-- how the walk along a path stands at a place of it: how many steps are fixed, and the last path through the last of them
pub record IsWalked (t : Shape) (p : List ℕ) (k fixed : ℕ) (owed : List ℕ) : Type 0 where
  pub count : fixed ≡ fixed_len t (take k p)
  pub rest : drop fixed owed ≡ owed_from t (take k p) fixed
  pub path : (owed ≡ []) ⊎ IsLastWith t (take fixed (take k p)) owed

-- at its beginning
pub walk_begins : (t : Shape) (p : List ℕ) → IsWalked t p 0 0 []
walk_begins t p = record { count = refl; rest = refl; path = inl refl }

-- one step more, which commits or doesn't
module _ (t : Shape) (p : List ℕ) (k fixed : ℕ) (owed : List ℕ) (o : IsOrderly t) (lt : k < length p) (on : goes_on_to t (take k p) (slice_index p k) ≡ true) (at : IsWalked t p k fixed owed) where
  abbrev v : List ℕ
  v = take k p

  abbrev x : ℕ
  x = slice_index p k

  more : take (k + 1) p ≡ v ++ x ∷ []
  more = ap (λ n. take n p) (add-one k) ∙ take-suc p k 0 lt

  long : length v ≡ k
  long = length-take-le k p (omega arith)

  few : fixed ≤ length v
  few = omega (arith, at.count, fixed_le t v)

  -- it is owed if it stands on the path
  owed_here : stands_at x k owed ≡ has x (owed_from t v fixed)
  owed_here =
      ⊎_elim
      (λ none. ap (stands_at x k) none ∙ sym (ap (has x) (sym at.rest ∙ ap (drop fixed) none ∙ drop_nothing fixed)))
      (λ l. ap (λ n. stands_at x n owed) (sym long) ∙ stands_or_has t v owed fixed x o on l.among few ∙ ap (has x) at.rest)
      at.path
    where
      drop_nothing : (n : ℕ) → drop n [] ≡ (let none : List ℕ = [] in none)
      drop_nothing zero = refl
      drop_nothing (suc n) = refl

  commits_so : commits_by_kind (kind_of t x) (stands_at x k owed) ≡ commits_after t v x
  commits_so = ap (commits_by_kind (kind_of t x)) owed_here ∙ ap (λ n. commits_behind t v n x) at.count

  then_fixed : (c : Bool) → commits_by_kind (kind_of t x) (stands_at x k owed) ≡ c → fixed_len t (take (k + 1) p) ≡ (if c then length v + 1 else fixed_len t v)
  then_fixed c is = ap (fixed_len t) more ∙ (fixed_more t v x ∙ ap (λ c. if c then length v + 1 else fixed_len t v) (sym commits_so ∙ is))

  -- behind a commit point, by the last path through it
  then_walked : (q : List ℕ) → commits_by_kind (kind_of t x) (stands_at x k owed) ≡ true → IsThrough t v x q → IsWalked t p (k + 1) (k + 1) q
  then_walked q is through =
      let one = length-append v (x ∷ []) in
      let all : length (v ++ x ∷ []) ≡ k + 1 = omega (arith, one, long) in
      let whole : take (k + 1) (take (k + 1) p) ≡ v ++ x ∷ [] = ap (take (k + 1)) more ∙ take_whole (v ++ x ∷ []) (k + 1) (omega (arith, all)) in
      record {
        count = ap (λ n. n + 1) (sym long) ∙ sym (then_fixed true is);
        rest =
            ap (drop (k + 1)) (through.is ∙ sym (append_assoc v (x ∷ []) (last_after t (v ++ x ∷ []))))
            ∙ ap (λ n. drop n ((v ++ x ∷ []) ++ last_after t (v ++ x ∷ []))) (sym all)
            ∙ drop-append_seam (v ++ x ∷ []) (last_after t (v ++ x ∷ []))
            ∙ sym (ap (last_after t) whole)
            ∙ sym (ap (λ c. if c then [] else last_after t (take (k + 1) (take (k + 1) p))) (ne_eqb (k + 1) 0 (λ z. omega arith)));
        path = inr (subst (λ u. IsLastWith t u q) (sym whole) through.with_both);
      }

  pub walk_commits : commits_by_kind (kind_of t x) (stands_at x k owed) ≡ true → IsWalked t p (k + 1) (k + 1) (if stands_at x k owed then owed else last_through x k t.paths [])
  walk_commits is = by_stand (stands_at x k owed) refl
    where
      by_stand : (b : Bool) → stands_at x k owed ≡ b → IsWalked t p (k + 1) (k + 1) (if b then owed else last_through x k t.paths [])
      by_stand true on_owed =
          then_walked owed is
          (⊎_elim
          (λ none. absurd (let f : false ≡ true = sym (ap (stands_at x k) none) ∙ on_owed in cc))
          (λ l. still_through t v fixed x owed o on (ap (λ n. stands_at x n owed) long ∙ on_owed) l)
          at.path)
      by_stand false off = then_walked (last_through x k t.paths []) is (subst (λ n. IsThrough t v x (last_through x n t.paths [])) long (through_is t v x o on))

  pub walk_passes : commits_by_kind (kind_of t x) (stands_at x k owed) ≡ false → IsWalked t p (k + 1) fixed owed
  walk_passes is = record {
    count = at.count ∙ sym (then_fixed false is);
    rest = at.rest ∙ sym (ap (λ u. if nat_eq fixed 0 then [] else last_after t u) (ap (take fixed) more ∙ take_front fixed v (x ∷ []) few));
    path =
        ⊎_elim
        (λ none. inl none)
        (λ l. inr (subst (λ u. IsLastWith t u owed) (sym (ap (take fixed) more ∙ take_front fixed v (x ∷ []) few)) l))
        at.path;
  }
