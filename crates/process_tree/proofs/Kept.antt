-- What is kept at a fallback, and the way on from it.
use Rattle.std.proofs.Common.{◌≡◌, inl, inr, ⊎_elim, subst, ℕ, ◌+◌, ◌-◌, ◌<◌, ◌≤◌, zero, suc, Bool, true, false, List, [], ◌∷◌, length, map, take, filter, find, flat_map, cond, unwrap_or, Option, Some, None, refl, sym, ap, ◌∙◌, arith, nat_eq, nat_lt, if◌then◌else◌}
use Rattle.std.proofs.lemmas.Bool.{ltb-true, ltb-false, lt-ltb, eq-eqb, ne_eqb, cases_eq, cases_Bool}
use Rattle.std.specs.List.{filter_map, slice_get}
use Rattle.process_tree.specs.Blocks.{numbers_from}
use Rattle.process_tree.specs.Order.{Each, IsRising, has}
use Rattle.process_tree.specs.Paths.{shared, if_later, way_from, kept_len}
use Rattle.process_tree.specs.Shape.{Shape, next_steps, goes_on_to, path_through, steps_before, branch_to, fixed_len, last_commit, last_of, least}
use Rattle.process_tree.specs.Play.{kept_prefixes, fallback_of, kept_for}
use Rattle.process_tree.proofs.Every.{Each-weaker}
use Rattle.process_tree.proofs.Branches.{has_cases, has_here, has_there, Each-has, Among, Each-among, before_here, before_there}
use Rattle.process_tree.proofs.Numbers.{numbers_has, numbers_between, in_flat, to_flat, in_filter, to_filter, least_is, least_same}
use Rattle.process_tree.proofs.Onward.{onward, onward_both, onward_above, onward_self, given, gives, next_is, goes_along}

-- a path that goes on from k steps of w with a step above all of w shares just these with it
leaves : (k : ℕ) (w p : List ℕ) (d : ℕ) → k ≤ length w → Each (λ b. b < d) w → onward (take k w) p ≡ Some d → (shared w p ≡ k) × (slice_get p (shared w p) ≡ Some d)
leaves zero [] [] d le above e = absurd (cc)
leaves zero [] (y ∷ p) d le above e = (refl, e)
leaves zero (x ∷ w) [] d le above e = absurd (cc)
leaves zero (x ∷ w) (y ∷ p) d le above e =
    let same : y ≡ d = (let f : Some y ≡ Some d = e in cc) in
    let apart : shared (x ∷ w) (y ∷ p) ≡ 0 = ap (λ t. if t then shared w p + 1 else 0) (ne_eqb x y (λ f. let lt : x < d = above.0 in omega arith)) in
    (apart, ap (slice_get (y ∷ p)) apart ∙ ap Some same)
leaves (suc k) [] p d le above e = absurd (omega arith)
leaves (suc k) (x ∷ w) [] d le above e = absurd (cc)
leaves (suc k) (x ∷ w) (y ∷ p) d le above e =
    let both = onward_both x y d (take k w) p e in
    let rest = leaves k w p d (omega arith) above.1 both.1 in
    let one : shared (x ∷ w) (y ∷ p) ≡ suc (shared w p) = ap (λ t. if t then shared w p + 1 else 0) (eq-eqb x y both.0) ∙ (omega arith) in
    (one ∙ ap suc rest.0, ap (slice_get (y ∷ p)) one ∙ rest.1)

-- a path goes on from what it shares with w
pub shared_onward : (w p : List ℕ) → onward (take (shared w p) w) p ≡ slice_get p (shared w p)
shared_onward [] [] = refl
shared_onward [] (y ∷ p) = refl
shared_onward (x ∷ w) [] = refl
shared_onward (x ∷ w) (y ∷ p) =
    ⊎_elim
    (λ same.
    let one : shared (x ∷ w) (y ∷ p) ≡ suc (shared w p) = ap (λ t. if t then shared w p + 1 else 0) (eq-eqb x y same) ∙ (omega arith) in
    ap (λ n. onward (take n (x ∷ w)) (y ∷ p)) one
    ∙ ap (λ t. if t then onward (take (shared w p) w) p else None) (eq-eqb x y same)
    ∙ shared_onward w p
    ∙ sym (ap (slice_get (y ∷ p)) one))
    (λ apart.
    let none : shared (x ∷ w) (y ∷ p) ≡ 0 = ap (λ t. if t then shared w p + 1 else 0) (ne_eqb x y apart) in
    ap (λ n. onward (take n (x ∷ w)) (y ∷ p)) none ∙ sym (ap (slice_get (y ∷ p)) none))
    (cases_eq x y)

pub shared_le : (w p : List ℕ) → shared w p ≤ length w
shared_le [] p = omega arith
shared_le (x ∷ w) [] = omega arith
shared_le (x ∷ w) (y ∷ p) =
    ⊎_elim
    (λ t. let e : shared (x ∷ w) (y ∷ p) ≡ shared w p + 1 = ap (λ t. if t then shared w p + 1 else 0) t in omega (arith, shared_le w p))
    (λ f. let e : shared (x ∷ w) (y ∷ p) ≡ 0 = ap (λ t. if t then shared w p + 1 else 0) f in omega arith)
    (cases_Bool (nat_eq x y))

-- a way is a later step that the path gives behind what it shares
way_is : (fixed b d : ℕ) (w p : List ℕ) → way_from fixed w b p ≡ Some d → (fixed ≤ shared w p) × (slice_get p (shared w p) ≡ Some d) × (b < d)
way_is fixed b d w p e = by_fixed (nat_lt (shared w p) fixed) refl
  where
    later : (o : Option ℕ) → if_later b o ≡ Some d → (o ≡ Some d) × (b < d)
    later None f = absurd (cc)
    later (Some x) f = by_lt (nat_lt b x) refl
      where
        by_lt : (t : Bool) → nat_lt b x ≡ t → (Some x ≡ Some d) × (b < d)
        by_lt true u =
            let g : Some x ≡ Some d = sym (ap (λ t. if t then Some x else None) u) ∙ f in
            let same : x ≡ d = cc in
            (g, let lt = ltb-true b x u in omega arith)
        by_lt false u = let g : None ≡ Some d = sym (ap (λ t. if t then Some x else None) u) ∙ f in absurd (cc)

    by_fixed : (t : Bool) → nat_lt (shared w p) fixed ≡ t → (fixed ≤ shared w p) × (slice_get p (shared w p) ≡ Some d) × (b < d)
    by_fixed true u = let g : None ≡ Some d = sym (ap (λ t. if t then None else if_later b (slice_get p (shared w p))) u) ∙ e in absurd (cc)
    by_fixed false u =
        let r = later (slice_get p (shared w p)) (sym (ap (λ t. if t then None else if_later b (slice_get p (shared w p))) u) ∙ e) in
        (ltb-false (shared w p) fixed u, r.0, r.1)

is_way : (fixed b d : ℕ) (w p : List ℕ) → fixed ≤ shared w p → slice_get p (shared w p) ≡ Some d → b < d → way_from fixed w b p ≡ Some d
is_way fixed b d w p le e lt =
    ap (λ t. if t then None else if_later b (slice_get p (shared w p))) (not_lt (shared w p) fixed le)
    ∙ ap (if_later b) e
    ∙ ap (λ t. if t then Some d else None) (lt-ltb b d lt)
  where
    not_lt : (m n : ℕ) → n ≤ m → nat_lt m n ≡ false
    not_lt m n le = ⊎_elim (λ t. let lt = ltb-true m n t in absurd (omega arith)) (λ f. f) (cases_Bool (nat_lt m n))

-- the least later step that goes on from what is kept of w is the least way that leaves w
pub fallback_is : (t : Shape) (w : List ℕ) (b : ℕ) → fixed_len t w ≤ length w → Each (λ x. x < b) w → fallback_of t w b ≡ least (filter_map (way_from (fixed_len t w) w b) t.paths)
fallback_is t w b fits below =
    least_same (filter (λ d. nat_lt b d) (flat_map (next_steps t) (kept_prefixes t w))) (filter_map (way_from (fixed_len t w) w b) t.paths) to back
  where
    to : (d : ℕ) → has d (filter (λ d. nat_lt b d) (flat_map (next_steps t) (kept_prefixes t w))) ≡ true → has d (filter_map (way_from (fixed_len t w) w b) t.paths) ≡ true
    to d on =
        let f = fixed_len t w in
        let passed = in_filter b d (flat_map (next_steps t) (kept_prefixes t w)) on in
        let prefix = in_flat (next_steps t) (λ k. take k w) d (numbers_from f (length w - f + 1)) passed.0 in
        let k = prefix.0 in
        let between = numbers_between k f (length w - f + 1) prefix.1 in
        let along = goes_along t (take k w) d prefix.2 in
        let p = along.0 in
        let left = leaves k w p d (omega arith) (Each-weaker (λ x. x < b) (λ x. x < d) (λ x lt. let up : b < d = passed.1 in omega arith) w below) along.2 in
        gives (way_from f w b) t.paths d p along.1 (is_way f b d w p (omega arith) left.1 passed.1)

    back : (d : ℕ) → has d (filter_map (way_from (fixed_len t w) w b) t.paths) ≡ true → has d (filter (λ d. nat_lt b d) (flat_map (next_steps t) (kept_prefixes t w))) ≡ true
    back d on =
        let f = fixed_len t w in
        let way = given (way_from f w b) t.paths d on in
        let p = way.0 in
        let is = way_is f b d w p way.2 in
        let k = shared w p in
        let le = shared_le w p in
        let next = ap (has d) (next_is t (take k w)) ∙ gives (onward (take k w)) t.paths d p way.1 (shared_onward w p ∙ is.1) in
        to_filter b d (flat_map (next_steps t) (kept_prefixes t w))
        (to_flat (next_steps t) (λ k. take k w) d k (numbers_from f (length w - f + 1)) (numbers_has k f (length w - f + 1) is.0 (omega arith)) next)
        is.2

-- one of these passes the test, so one is found
found : (test : List ℕ → Bool) (h : ℕ → List ℕ) (k : ℕ) (ks : List ℕ) → has k ks ≡ true → test (h k) ≡ true → test (unwrap_or (find test (map h ks)) []) ≡ true
found test h k [] on passes = absurd (cc)
found test h k (j ∷ ks) on passes =
    ⊎_elim
    (λ here. ap (λ o. test (unwrap_or o [])) (ap (λ t. cond t (Some (h j)) (find test (map h ks))) here) ∙ here)
    (λ not_here.
    ap (λ o. test (unwrap_or o [])) (ap (λ t. cond t (Some (h j)) (find test (map h ks))) not_here)
    ∙ found test h k ks (⊎_elim (λ e. absurd (let f = ap (λ i. test (h i)) e in cc)) (λ rest. rest.1) (has_cases k j ks on)) passes)
    (cases_Bool (test (h j)))

-- the way on goes on from what is kept for it
pub kept_goes_on : (t : Shape) (w : List ℕ) (b d : ℕ) → fallback_of t w b ≡ Some d → goes_on_to t (kept_for t w d) d ≡ true
kept_goes_on t w b d is =
    let f = fixed_len t w in
    let on = (least_is (filter (λ d. nat_lt b d) (flat_map (next_steps t) (kept_prefixes t w))) d is).0 in
    let passed = in_filter b d (flat_map (next_steps t) (kept_prefixes t w)) on in
    let prefix = in_flat (next_steps t) (λ k. take k w) d (numbers_from f (length w - f + 1)) passed.0 in
    found (λ v. goes_on_to t v d) (λ k. take k w) prefix.0 (numbers_from f (length w - f + 1)) prefix.1 prefix.2

-- the way on is later than what was refused
pub way_is_later : (t : Shape) (w : List ℕ) (b d : ℕ) → fallback_of t w b ≡ Some d → b < d
way_is_later t w b d is = (in_filter b d (flat_map (next_steps t) (kept_prefixes t w)) (least_is (filter (λ d. nat_lt b d) (flat_map (next_steps t) (kept_prefixes t w))) d is).0).1

-- the last of the first f steps tells how many these are
has_last : (x : ℕ) (xs : List ℕ) (c : ℕ) → last_of (x ∷ xs) ≡ Some c → has c (x ∷ xs) ≡ true
has_last x [] c e = has_here c x [] (cc)
has_last x (y ∷ xs) c e = has_there c x (y ∷ xs) (has_last y xs c e)

has_taken : (k : ℕ) (w : List ℕ) (c : ℕ) → has c (take k w) ≡ true → has c w ≡ true
has_taken zero w c on = absurd (cc)
has_taken (suc k) [] c on = on
has_taken (suc k) (x ∷ w) c on =
    ⊎_elim (λ e. has_here c x w e) (λ rest. has_there c x w (has_taken k w c rest.1)) (has_cases c x (take k w) on)

last_some : (x : ℕ) (xs : List ℕ) → (c : ℕ) × (last_of (x ∷ xs) ≡ Some c)
last_some x [] = (x, refl)
last_some x (y ∷ xs) = last_some y xs

pub kept_is : (f : ℕ) (w : List ℕ) → f ≤ length w → IsRising w → kept_len w (last_of (take f w)) ≡ f
kept_is zero w le rise = refl
kept_is (suc f) [] le rise = absurd (omega arith)
kept_is (suc zero) (x ∷ w) le rise = ap (λ v. length v + 1) (before_here x x w refl)
kept_is (suc (suc f)) (x ∷ []) le rise = absurd (omega arith)
kept_is (suc (suc f)) (x ∷ y ∷ w) le rise =
    let last = last_some y (take f w) in
    let c = last.0 in
    let on = has_taken (suc f) (y ∷ w) c (has_last y (take f w) c last.1) in
    let up : x < c = Each-has (λ z. x < z) (y ∷ w) c rise.0 on in
    let rest : kept_len (y ∷ w) (Some c) ≡ suc f = sym (ap (kept_len (y ∷ w)) last.1) ∙ kept_is (suc f) (y ∷ w) (omega arith) rise.1 in
    let there = ap length (before_there c x (y ∷ w) (λ e. omega arith)) in
    ap (kept_len (x ∷ y ∷ w)) last.1 ∙ (omega arith)

-- the last commit point of a branch is on it
pub last_commit_on : (t : Shape) (w : List ℕ) (c : ℕ) → last_commit t w ≡ Some c → has c w ≡ true
last_commit_on t w c e = has_taken (fixed_len t w) w c (by_list (take (fixed_len t w) w) e)
  where
    by_list : (xs : List ℕ) → last_of xs ≡ Some c → has c xs ≡ true
    by_list [] f = absurd (cc)
    by_list (x ∷ xs) f = has_last x xs c f

-- what stands before b on the branch to it is below b, and rises
path_through-has : (b : ℕ) (ps : List (List ℕ)) → has b (path_through b ps) ≡ true → Among (path_through b ps) ps
path_through-has b [] on = absurd (cc)
path_through-has b (p ∷ ps) on =
    ⊎_elim
    (λ here. inl (ap (λ t. if t then p else path_through b ps) here))
    (λ not_here.
    let e : path_through b (p ∷ ps) ≡ path_through b ps = ap (λ t. if t then p else path_through b ps) not_here in
    inr (subst (λ q. Among q ps) (sym e) (path_through-has b ps (sym (ap (has b) e) ∙ on))))
    (cases_Bool (has b p))

path_through-off : (b : ℕ) (ps : List (List ℕ)) → has b (path_through b ps) ≡ false → path_through b ps ≡ []
path_through-off b [] off = refl
path_through-off b (p ∷ ps) off =
    ⊎_elim
    (λ here. let e : path_through b (p ∷ ps) ≡ p = ap (λ t. if t then p else path_through b ps) here in let f = ap (has b) e in absurd (cc))
    (λ not_here.
    let e : path_through b (p ∷ ps) ≡ path_through b ps = ap (λ t. if t then p else path_through b ps) not_here in
    e ∙ path_through-off b ps (sym (ap (has b) e) ∙ off))
    (cases_Bool (has b p))

-- what holds of the steps before b on a path through it holds of the branch to it
on_branch : (P : List ℕ → Type 0) (t : Shape) (b : ℕ) → P [] → ((p : List ℕ) → Among p t.paths → has b p ≡ true → P (steps_before b p)) → P (branch_to t b)
on_branch P t b none some =
    ⊎_elim
    (λ on. some (path_through b t.paths) (path_through-has b t.paths on) on)
    (λ off. subst (λ q. P (steps_before b q)) (sym (path_through-off b t.paths off)) none)
    (cases_Bool (has b (path_through b t.paths)))

before_each : (P : ℕ → Type 0) (b : ℕ) (p : List ℕ) → Each P p → Each P (steps_before b p)
before_each P b [] h = tt
before_each P b (x ∷ p) h =
    ⊎_elim
    (λ e. subst (Each P) (sym (before_here b x p e)) tt)
    (λ n. subst (Each P) (sym (before_there b x p n)) (h.0, before_each P b p h.1))
    (cases_eq b x)

before_rises : (b : ℕ) (p : List ℕ) → IsRising p → IsRising (steps_before b p)
before_rises b [] h = tt
before_rises b (x ∷ p) h =
    ⊎_elim
    (λ e. subst IsRising (sym (before_here b x p e)) tt)
    (λ n. subst IsRising (sym (before_there b x p n)) (before_each (λ y. x < y) b p h.0, before_rises b p h.1))
    (cases_eq b x)

pub branch_below : (t : Shape) (b : ℕ) → Each IsRising t.paths → Each (λ x. x < b) (branch_to t b)
branch_below t b rise =
    on_branch (Each (λ x. x < b)) t b tt (λ p inp on. onward_above (steps_before b p) p b (Each-among IsRising t.paths p rise inp) (onward_self b p on))

pub branch_rises : (t : Shape) (b : ℕ) → Each IsRising t.paths → IsRising (branch_to t b)
branch_rises t b rise = on_branch IsRising t b tt (λ p inp on. before_rises b p (Each-among IsRising t.paths p rise inp))

pub branch_within : (t : Shape) (b c : ℕ) → Each (Each (λ x. x < c)) t.paths → Each (λ x. x < c) (branch_to t b)
branch_within t b c within = on_branch (Each (λ x. x < c)) t b tt (λ p inp on. before_each (λ x. x < c) b p (Each-among (Each (λ x. x < c)) t.paths p within inp))

-- a rising list is no longer than the numbers between its bounds
pub rising_short : (m c : ℕ) (p : List ℕ) → m ≤ c → Each (λ x. m ≤ x) p → Each (λ x. x < c) p → IsRising p → m + length p ≤ c
rising_short m c [] le from to rise = omega arith
rising_short m c (x ∷ p) le from to rise =
    let low : m ≤ x = from.0 in
    let high : x < c = to.0 in
    omega (arith, rising_short (x + 1) c p (omega arith) (Each-weaker (λ y. x < y) (λ y. x + 1 ≤ y) (λ y lt. omega arith) p rise.0) to.1 rise.1)
