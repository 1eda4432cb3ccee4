-- Whether a refused step behind a commit point has a way on, as it is looked up: by the last step of each path.
use Rattle.process_tree.proofs.Wholes.{paths_part}
use Rattle.std.proofs.Math.Bool.{or-true}
use Rattle.std.proofs.Common.{◌≡◌, ◌⊎◌, inl, inr, ⊎_elim, ℕ, ◌+◌, ◌-◌, ◌<◌, ◌≤◌, ◌&&◌, ◌||◌, zero, suc, Bool, true, false, List, [], ◌∷◌, length, take, filter, flat_map, Option, Some, None, refl, sym, ap, ◌∙◌, arith, nat_lt, if◌then◌else◌, slice_index, not, take_all}
use Rattle.std.proofs.lemmas.Bool.{ltb-true, lt-ltb, cases_lt, eq-eqb, cases_Bool}
use Rattle.std.specs.List.{list_any, slice_get}
use Rattle.process_tree.specs.Blocks.{numbers_from}
use Rattle.process_tree.specs.Order.{Each, IsRising, has}
use Rattle.process_tree.specs.Shape.{Shape, last_of, next_steps, goes_on_to, fixed_len, least}
use Rattle.process_tree.specs.Play.{kept_prefixes, fallback_of}
use Rattle.process_tree.proofs.Branches.{has_cases, has_here, has_there, Each-has, Among, Each-among, branch_is}
use Rattle.process_tree.proofs.Numbers.{numbers_has, numbers_between, in_flat, to_flat, in_filter, to_filter, least_is, least_some}
use Rattle.process_tree.proofs.Onward.{onward, onward_both, onward_has, onward_before, onward_self, goes_along, goes_on}
use Rattle.process_tree.proofs.Fixed.{fixed_le}
use Rattle.well_formed.specs.Flaws.{IsOrderly, is_nowhere}
use Rattle.well_formed.specs.Spots.{stands_at, is_later, leaves_later}
use Rattle.well_formed.proofs.Apart.{leaves, onward_at}
use Rattle.well_formed.proofs.Firsts.{both_true}
use Rattle.well_formed.proofs.Reach.{Each-at}
use Rattle.well_formed.proofs.Spots.{step_is, is_that, at_place, place_is}
use Rattle.well_formed.proofs.Standing.{on_above}

-- the last step is on the path
last_has : (p : List ℕ) (d : ℕ) → last_of p ≡ Some d → has d p ≡ true
last_has [] d is = absurd (cc)
last_has (x ∷ []) d is = has_here d x [] (let e : Some x ≡ Some d = is in cc)
last_has (x ∷ y ∷ p) d is = has_there d x (y ∷ p) (last_has (y ∷ p) d is)

-- the last step of a rising path is behind each that is above b
last_above : (p : List ℕ) (b d : ℕ) → IsRising p → has d p ≡ true → b < d → is_later b (last_of p) ≡ true
last_above [] b d rise on lt = absurd (cc)
last_above (x ∷ []) b d rise on lt =
    ⊎_elim (λ e. lt-ltb b x (let same : d ≡ x = e in omega arith)) (λ rest. absurd (let f = rest.1 in cc)) (has_cases d x [] on)
last_above (x ∷ y ∷ p) b d rise on lt =
    ⊎_elim
    (λ e. last_above (y ∷ p) b y rise.1 (has_here y y p refl) (let up : x < y = rise.0.0 in let same : d ≡ x = e in omega arith))
    (λ rest. last_above (y ∷ p) b d rise.1 rest.1 lt)
    (has_cases d x (y ∷ p) on)

-- what is later is above b
later_is : (b : ℕ) (o : Option ℕ) → is_later b o ≡ true → (d : ℕ) × (o ≡ Some d) × (b < d)
later_is b None is = absurd (cc)
later_is b (Some d) is = (d, refl, ltb-true b d is)

-- a path that goes on from k steps of w has each of them at its place
pub steps_at : (w q : List ℕ) (k i d : ℕ) → onward (take k w) q ≡ Some d → i < k → i < length w → slice_get q i ≡ Some (slice_index w i)
steps_at [] q k i d on lt in_w = absurd (omega arith)
steps_at (x ∷ w) q zero i d on lt in_w = absurd (omega arith)
steps_at (x ∷ w) [] (suc k) i d on lt in_w = absurd (cc)
steps_at (x ∷ w) (y ∷ q) (suc k) zero d on lt in_w = ap Some (sym (onward_both x y d (take k w) q on).0)
steps_at (x ∷ w) (y ∷ q) (suc k) (suc i) d on lt in_w = steps_at w q k i d (onward_both x y d (take k w) q on).1 (omega arith) (omega arith)

-- a path with the first k + 1 steps of w goes on from fewer of them with the next
along_w : (w q : List ℕ) (k j : ℕ) → k < length w → j ≤ k → onward (take k w) q ≡ Some (slice_index w k) → onward (take j w) q ≡ Some (slice_index w j)
along_w [] q k j lt le on = absurd (omega arith)
along_w (x ∷ w) [] zero j lt le on = absurd (cc)
along_w (x ∷ w) [] (suc k) j lt le on = absurd (cc)
along_w (x ∷ w) (y ∷ q) zero zero lt le on = on
along_w (x ∷ w) (y ∷ q) zero (suc j) lt le on = absurd (omega arith)
along_w (x ∷ w) (y ∷ q) (suc k) zero lt le on = ap Some (sym (onward_both x y (slice_index w k) (take k w) q on).0)
along_w (x ∷ w) (y ∷ q) (suc k) (suc j) lt le on =
    let both = onward_both x y (slice_index w k) (take k w) q on in
    ap (λ t. if t then onward (take j w) q else None) (eq-eqb x y both.0) ∙ along_w w q k j (omega arith) (omega arith) both.1

-- what some path is, and that one is
pub any_among : (f : List ℕ → Bool) (ps : List (List ℕ)) → list_any f ps ≡ true → (q : List ℕ) × Among q ps × (f q ≡ true)
any_among f [] is = absurd (cc)
any_among f (p ∷ ps) is = by_head (f p) refl (λ more. any_among f ps more)
  where
    by_head : (b : Bool) → f p ≡ b → (list_any f ps ≡ true → (q : List ℕ) × Among q ps × (f q ≡ true)) → (q : List ℕ) × Among q (p ∷ ps) × (f q ≡ true)
    by_head true e rest = (p, inl refl, e)
    by_head false e rest = let r = rest (sym (ap (λ b. b || list_any f ps) e) ∙ is) in (r.0, inr r.1, r.2)

pub among_any : (f : List ℕ → Bool) (ps : List (List ℕ)) (q : List ℕ) → Among q ps → f q ≡ true → list_any f ps ≡ true
among_any f [] q inq is = absurd inq
among_any f (p ∷ ps) q inq is =
    ⊎_elim
    (λ e. ap (λ b. b || list_any f ps) (sym (ap f e) ∙ is))
    (λ later. ap (λ b. f p || b) (among_any f ps q later is) ∙ or-true (f p))
    inq

not_true : (b : Bool) → not b ≡ true → b ≡ false
not_true true is = absurd (cc)
not_true false is = refl

-- among the ways there is the least
least_there : (xs : List ℕ) (d : ℕ) → has d xs ≡ true → is_nowhere (least xs) ≡ false
least_there [] d on = absurd (cc)
least_there (x ∷ xs) d on = ap is_nowhere (least_some x xs).1

-- a path that leaves w, or b behind it, for later steps, though it goes through what is fixed: there is a way on
leaves_is_way : (t : Shape) (w : List ℕ) (b k : ℕ) (q : List ℕ) → IsOrderly t → goes_on_to t w b ≡ true → fixed_len t w ≡ suc k → Among q t.paths → leaves_later k w b q ≡ true → is_nowhere (fallback_of t w b) ≡ false
leaves_is_way t w b k q o on fixed inq is =
    least_there (filter (λ d. nat_lt b d) (flat_map (next_steps t) (kept_prefixes t w))) left.1 there
  where
    along : (p : List ℕ) × Among p t.paths × (onward w p ≡ Some b)
    along = goes_along t w b on

    p : List ℕ
    p = along.0

    c : ℕ
    c = slice_index w k

    inside : k < length w
    inside = omega (arith, fixed_le t w, fixed)

    rise : IsRising q
    rise = Each-among IsRising t.paths q o.rising inq

    parts : ((stands_at c k q && not (stands_at b (length w) q)) ≡ true) × (is_later b (last_of q) ≡ true)
    parts = both_true (stands_at c k q && not (stands_at b (length w) q)) (is_later b (last_of q)) is

    first : (stands_at c k q ≡ true) × (not (stands_at b (length w) q) ≡ true)
    first = both_true (stands_at c k q) (not (stands_at b (length w) q)) parts.0

    last : (d : ℕ) × (last_of q ≡ Some d) × (b < d)
    last = later_is b (last_of q) parts.1

    off : has b q ≡ false
    off = ⊎_elim (λ on_q. absurd (not_both on_q)) (λ f. f) (cases_Bool (has b q))
      where
        not_both : has b q ≡ true → ⊥
        not_both on_q =
            let before = sym (branch_is t b q o.in_order o.rising inq on_q) ∙ branch_is t b p o.in_order o.rising along.1 (onward_has w p b along.2) ∙ onward_before w p b (Each-among IsRising t.paths p o.rising along.1) along.2 in
            let here = is_that b (slice_get q (length w)) (sym (ap (λ v. slice_get q (length v)) before) ∙ place_is b q on_q) in
            let no = not_true (stands_at b (length w) q) first.1 in
            let f : true ≡ false = sym here ∙ no in
            cc

    -- c stands behind the same steps on q
    through : onward (take k w) q ≡ Some c
    through =
        let at = at_place c k q rise (step_is c (slice_get q k) first.0) in
        let on_c = onward_at w p b k along.2 inside in
        let before = sym (branch_is t c q o.in_order o.rising inq at.0) ∙ branch_is t c p o.in_order o.rising along.1 (onward_has (take k w) p c on_c) ∙ onward_before (take k w) p c (Each-among IsRising t.paths p o.rising along.1) on_c in
        sym (ap (λ v. onward v q) before) ∙ onward_self c q at.0

    left : (j : ℕ) × (d : ℕ) × (j ≤ length w) × (onward (take j w) q ≡ Some d) × ((b < d) ⊎ Each (λ z. z < b) q)
    left = leaves w p q b (paths_part t.paths p q o.in_order along.1 inq) (on_above t w b o on) along.2 off

    up : b < left.1
    up = ⊎_elim (λ lt. lt) (λ all. absurd (let less : last.0 < b = Each-has (λ z. z < b) q last.0 all (last_has q last.0 last.1) in let more = last.2 in omega arith)) left.4

    behind : suc k ≤ left.0
    behind =
        ⊎_elim
        (λ lt.
        let next = along_w w q k left.0 inside (omega arith) through in
        let same : slice_index w left.0 ≡ left.1 = (let e : Some (slice_index w left.0) ≡ Some left.1 = sym next ∙ left.3 in cc) in
        let low : slice_index w left.0 < b = Each-at (λ x. x < b) w left.0 (on_above t w b o on) (omega (arith, inside)) in
        let high = up in
        absurd (omega arith))
        (λ le. le)
        (cases_lt left.0 (suc k))

    there : has left.1 (filter (λ d. nat_lt b d) (flat_map (next_steps t) (kept_prefixes t w))) ≡ true
    there =
        let f = fixed_len t w in
        to_filter b left.1 (flat_map (next_steps t) (kept_prefixes t w))
        (to_flat (next_steps t) (λ j. take j w) left.1 left.0 (numbers_from f (length w - f + 1)) (numbers_has left.0 f (length w - f + 1) (omega (arith, behind, fixed)) (omega (arith, left.2, fixed_le t w))) (goes_on t (take left.0 w) left.1 q inq left.3))
        up

-- where there is a way on, some path leaves so
way_leaves : (t : Shape) (w : List ℕ) (b d k : ℕ) → IsOrderly t → goes_on_to t w b ≡ true → fixed_len t w ≡ suc k → fallback_of t w b ≡ Some d → list_any (leaves_later k w b) t.paths ≡ true
way_leaves t w b d k o on fixed falls =
    among_any (leaves_later k w b) t.paths q along.1
    (ap (λ x. x && not (stands_at b (length w) q) && is_later b (last_of q)) (is_that (slice_index w k) (slice_get q k) (steps_at w q j k d along.2 (omega (arith, between.0, fixed)) inside))
    ∙ ap (λ x. not x && is_later b (last_of q)) off
    ∙ last_above q b d rise (onward_has (take j w) q d along.2) passed.1)
  where
    passed : (has d (flat_map (next_steps t) (kept_prefixes t w)) ≡ true) × (b < d)
    passed = in_filter b d (flat_map (next_steps t) (kept_prefixes t w)) (least_is (filter (λ x. nat_lt b x) (flat_map (next_steps t) (kept_prefixes t w))) d falls).0

    prefix : (j : ℕ) × (has j (numbers_from (fixed_len t w) (length w - fixed_len t w + 1)) ≡ true) × (has d (next_steps t (take j w)) ≡ true)
    prefix = in_flat (next_steps t) (λ i. take i w) d (numbers_from (fixed_len t w) (length w - fixed_len t w + 1)) passed.0

    j : ℕ
    j = prefix.0

    between : (fixed_len t w ≤ j) × (j < fixed_len t w + (length w - fixed_len t w + 1))
    between = numbers_between j (fixed_len t w) (length w - fixed_len t w + 1) prefix.1

    along : (q : List ℕ) × Among q t.paths × (onward (take j w) q ≡ Some d)
    along = goes_along t (take j w) d prefix.2

    q : List ℕ
    q = along.0

    rise : IsRising q
    rise = Each-among IsRising t.paths q o.rising along.1

    inside : k < length w
    inside = omega (arith, fixed_le t w, fixed)

    -- b isn't on it, since it goes on from w with a later step
    off : stands_at b (length w) q ≡ false
    off = ⊎_elim (λ here. absurd (not_here here)) (λ f. f) (cases_Bool (stands_at b (length w) q))
      where
        not_here : stands_at b (length w) q ≡ true → ⊥
        not_here here =
            let p = goes_along t w b on in
            let at = at_place b (length w) q rise (step_is b (slice_get q (length w)) here) in
            let before = sym (branch_is t b q o.in_order o.rising along.1 at.0) ∙ branch_is t b p.0 o.in_order o.rising p.1 (onward_has w p.0 b p.2) ∙ onward_before w p.0 b (Each-among IsRising t.paths p.0 o.rising p.1) p.2 in
            let on_q : onward w q ≡ Some b = sym (ap (λ v. onward v q) before) ∙ onward_self b q at.0 in
            let up = passed.1 in
            ⊎_elim
            (λ lt.
            let next = onward_at w q b j on_q lt in
            let same : slice_index w j ≡ d = (let e : Some (slice_index w j) ≡ Some d = sym next ∙ along.2 in cc) in
            let low : slice_index w j < b = Each-at (λ x. x < b) w j (on_above t w b o on) lt in
            omega arith)
            (λ le.
            let same : b ≡ d = (let e : Some b ≡ Some d = sym on_q ∙ sym (ap (λ v. onward v q) (take_all j w le)) ∙ along.2 in cc) in
            omega arith)
            (cases_lt j (length w))

-- there is a way on where some path leaves so
pub way_on : (t : Shape) (w : List ℕ) (b k : ℕ) → IsOrderly t → goes_on_to t w b ≡ true → fixed_len t w ≡ suc k → is_nowhere (fallback_of t w b) ≡ not (list_any (leaves_later k w b) t.paths)
way_on t w b k o on fixed = by_any (list_any (leaves_later k w b) t.paths) refl
  where
    by_any : (x : Bool) → list_any (leaves_later k w b) t.paths ≡ x → is_nowhere (fallback_of t w b) ≡ not x
    by_any true is = let q = any_among (leaves_later k w b) t.paths is in leaves_is_way t w b k q.0 o on fixed q.1 q.2
    by_any false is = by_way (fallback_of t w b) refl
      where
        by_way : (n : Option ℕ) → fallback_of t w b ≡ n → is_nowhere n ≡ true
        by_way None e = refl
        by_way (Some d) e = absurd (let f : true ≡ false = sym (way_leaves t w b d k o on fixed e) ∙ is in cc)
