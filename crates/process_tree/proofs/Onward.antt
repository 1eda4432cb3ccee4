-- The steps that go on from a beginning of a whole path.
use Rattle.std.proofs.lemmas.Bool.{eq-eqb, ne_eqb, cases_eq, cases_Bool}
use Rattle.std.proofs.Common.{◌≡◌, inl, inr, ⊎_elim, ℕ, ◌<◌, Bool, true, false, ◌&&◌, List, [], ◌∷◌, ◌++◌, length, drop, Option, Some, None, refl, sym, ap, ◌∙◌, arith, nat_eq, if◌then◌else◌}
use Rattle.std.specs.List.{starts_with, filter_map, cons_option}
use Rattle.process_tree.specs.Order.{Each, IsRising, AreInOrder, has}
use Rattle.process_tree.specs.Paths.{behind, step_behind}
use Rattle.process_tree.specs.Shape.{Shape, first_of, next_steps, goes_on_to, steps_before, branch_to}
use Rattle.process_tree.proofs.Branches.{has_cases, has_here, has_there, Each-has, Among, Each-among, before_here, before_there, branch_is}

-- the step with which a path goes on from w
abbrev pub onward : List ℕ → List ℕ → Option ℕ
onward [] p = first_of p
onward (x ∷ w) [] = None
onward (x ∷ w) (y ∷ p) = if nat_eq x y then onward w p else None

onward_is : (w p : List ℕ) → (if starts_with nat_eq p w then first_of (drop (length w) p) else None) ≡ onward w p
onward_is [] p = refl
onward_is (x ∷ w) [] = refl
onward_is (x ∷ w) (y ∷ p) =
    ⊎_elim
    (λ t. ap (λ b. if (b && starts_with nat_eq p w) then first_of (drop (length w) p) else None) t ∙ onward_is w p ∙ sym (ap (λ b. if b then onward w p else None) t))
    (λ f. ap (λ b. if (b && starts_with nat_eq p w) then first_of (drop (length w) p) else None) f ∙ sym (ap (λ b. if b then onward w p else None) f))
    (cases_Bool (nat_eq x y))

-- where two functions agree on these paths, they give the same
pub filter_map-same : (f g : List ℕ → Option ℕ) (ps : List (List ℕ)) → ((p : List ℕ) → Among p ps → f p ≡ g p) → filter_map f ps ≡ filter_map g ps
filter_map-same f g [] same = refl
filter_map-same f g (p ∷ ps) same =
    ap (λ o. cons_option o (filter_map f ps)) (same p (inl refl)) ∙ ap (cons_option (g p)) (filter_map-same f g ps (λ q inq. same q (inr inq)))

-- the same in terms of `onward`
pub next_is : (t : Shape) (w : List ℕ) → next_steps t w ≡ filter_map (onward w) t.paths
next_is t w = filter_map-same (λ p. if starts_with nat_eq p w then first_of (drop (length w) p) else None) (onward w) t.paths (λ p inp. onward_is w p)

-- what is given, some path gives
pub given : (f : List ℕ → Option ℕ) (ps : List (List ℕ)) (d : ℕ) → has d (filter_map f ps) ≡ true → (p : List ℕ) × Among p ps × (f p ≡ Some d)
given f [] d h = absurd (cc)
given f (p ∷ ps) d h = by_head (f p) refl (λ more. given f ps d more)
  where
    by_head : (o : Option ℕ) → f p ≡ o → (has d (filter_map f ps) ≡ true → (q : List ℕ) × Among q ps × (f q ≡ Some d)) → (q : List ℕ) × Among q (p ∷ ps) × (f q ≡ Some d)
    by_head None e below =
        let rest = below (sym (ap (λ o. has d (cons_option o (filter_map f ps))) e) ∙ h) in
        (rest.0, inr rest.1, rest.2)
    by_head (Some x) e below =
        ⊎_elim
        (λ same. (p, inl refl, e ∙ ap Some (sym same)))
        (λ later. let rest = below later.1 in (rest.0, inr rest.1, rest.2))
        (has_cases d x (filter_map f ps) (sym (ap (λ o. has d (cons_option o (filter_map f ps))) e) ∙ h))

-- what a path gives is given
pub gives : (f : List ℕ → Option ℕ) (ps : List (List ℕ)) (d : ℕ) (p : List ℕ) → Among p ps → f p ≡ Some d → has d (filter_map f ps) ≡ true
gives f [] d p inp e = absurd inp
gives f (q ∷ qs) d p inp e =
    ⊎_elim
    (λ here. let g : f q ≡ Some d = ap f (sym here) ∙ e in ap (λ o. has d (cons_option o (filter_map f qs))) g ∙ has_here d d (filter_map f qs) refl)
    (λ later. put (f q) (gives f qs d p later e))
    inp
  where
    put : (o : Option ℕ) → has d (filter_map f qs) ≡ true → has d (cons_option o (filter_map f qs)) ≡ true
    put None h = h
    put (Some x) h = has_there d x (filter_map f qs) h

-- the step that goes on is on the path
pub onward_has : (v p : List ℕ) (d : ℕ) → onward v p ≡ Some d → has d p ≡ true
onward_has [] [] d e = absurd (cc)
onward_has [] (y ∷ p) d e = has_here d y p (cc)
onward_has (x ∷ v) [] d e = absurd (cc)
onward_has (x ∷ v) (y ∷ p) d e =
    ⊎_elim
    (λ t. has_there d y p (onward_has v p d (sym (ap (λ b. if b then onward v p else None) t) ∙ e)))
    (λ f. let none : None ≡ Some d = sym (ap (λ b. if b then onward v p else None) f) ∙ e in absurd (cc))
    (cases_Bool (nat_eq x y))

-- both are the same step, and the rest goes on
pub onward_both : (x y d : ℕ) (v p : List ℕ) → onward (x ∷ v) (y ∷ p) ≡ Some d → (x ≡ y) × (onward v p ≡ Some d)
onward_both x y d v p e =
    ⊎_elim
    (λ same. (same, sym (ap (λ b. if b then onward v p else None) (eq-eqb x y same)) ∙ e))
    (λ apart. let none : None ≡ Some d = sym (ap (λ b. if b then onward v p else None) (ne_eqb x y apart)) ∙ e in absurd (cc))
    (cases_eq x y)

-- it stands right behind the beginning
pub onward_before : (v p : List ℕ) (d : ℕ) → IsRising p → onward v p ≡ Some d → steps_before d p ≡ v
onward_before [] [] d rise e = refl
onward_before [] (y ∷ p) d rise e = before_here d y p (cc)
onward_before (x ∷ v) [] d rise e = absurd (cc)
onward_before (x ∷ v) (y ∷ p) d rise e =
    let both = onward_both x y d v p e in
    let later : y < d = Each-has (λ z. y < z) p d rise.0 (onward_has v p d both.1) in
    before_there d y p (λ same. omega arith) ∙ ap (λ z. z ∷ steps_before d p) (sym both.0) ∙ ap (λ xs. x ∷ xs) (onward_before v p d rise.1 both.1)

-- it is greater than each step of the beginning
pub onward_above : (v p : List ℕ) (d : ℕ) → IsRising p → onward v p ≡ Some d → Each (λ b. b < d) v
onward_above [] p d rise e = tt
onward_above (x ∷ v) [] d rise e = absurd (cc)
onward_above (x ∷ v) (y ∷ p) d rise e =
    let both = onward_both x y d v p e in
    let later : y < d = Each-has (λ z. y < z) p d rise.0 (onward_has v p d both.1) in
    (let same : x ≡ y = both.0 in omega arith, onward_above v p d rise.1 both.1)

-- a step goes on from what stands before it
pub onward_self : (b : ℕ) (p : List ℕ) → has b p ≡ true → onward (steps_before b p) p ≡ Some b
onward_self b [] on = absurd (cc)
onward_self b (x ∷ p) on =
    ⊎_elim
    (λ e. ap (λ v. onward v (x ∷ p)) (before_here b x p e) ∙ ap Some (sym e))
    (λ rest.
    ap (λ v. onward v (x ∷ p)) (before_there b x p rest.0)
    ∙ ap (λ t. if t then onward (steps_before b p) p else None) (eq-eqb x x refl)
    ∙ onward_self b p rest.1)
    (has_cases b x p on)

-- the path goes on behind a step of it
pub onward_behind : (b : ℕ) (p : List ℕ) → has b p ≡ true → onward (steps_before b p ++ b ∷ []) p ≡ behind b p
onward_behind b [] on = absurd (cc)
onward_behind b (x ∷ p) on =
    ⊎_elim
    (λ e.
    ap (λ v. onward (v ++ b ∷ []) (x ∷ p)) (before_here b x p e)
    ∙ ap (λ t. if t then first_of p else None) (eq-eqb b x e)
    ∙ sym (ap (λ t. if t then first_of p else behind b p) (eq-eqb x b (sym e))))
    (λ rest.
    ap (λ v. onward (v ++ b ∷ []) (x ∷ p)) (before_there b x p rest.0)
    ∙ ap (λ t. if t then onward (steps_before b p ++ b ∷ []) p else None) (eq-eqb x x refl)
    ∙ onward_behind b p rest.1
    ∙ sym (ap (λ t. if t then first_of p else behind b p) (ne_eqb x b (λ e. rest.0 (sym e)))))
    (has_cases b x p on)

-- a path doesn't go on behind a step that isn't on it
pub onward_off : (b : ℕ) (v p : List ℕ) → has b p ≡ false → onward (v ++ b ∷ []) p ≡ None
onward_off b [] [] off = refl
onward_off b [] (y ∷ p) off = ap (λ t. if t then first_of p else None) (ne_eqb b y (λ e. let t = has_here b y p e in cc))
onward_off b (x ∷ v) [] off = refl
onward_off b (x ∷ v) (y ∷ p) off =
    let off' = ⊎_elim (λ t. let u = has_there b y p t in absurd (cc)) (λ f. f) (cases_Bool (has b p)) in
    ap (λ o. if nat_eq x y then o else None) (onward_off b v p off') ∙ same (nat_eq x y)
  where
    same : (t : Bool) → (if t then None else None) ≡ (let none : Option ℕ = None in none)
    same true = refl
    same false = refl

pub behind_off : (b : ℕ) (p : List ℕ) → has b p ≡ false → behind b p ≡ None
behind_off b [] off = refl
behind_off b (x ∷ p) off =
    let off' = ⊎_elim (λ t. let u = has_there b x p t in absurd (cc)) (λ f. f) (cases_Bool (has b p)) in
    ap (λ t. if t then first_of p else behind b p) (ne_eqb x b (λ e. let t = has_here b x p (sym e) in cc)) ∙ behind_off b p off'

-- the steps that go on behind b
pub next_behind : (t : Shape) (b : ℕ) → AreInOrder t.paths → Each IsRising t.paths → next_steps t (branch_to t b ++ b ∷ []) ≡ filter_map (step_behind (Some b)) t.paths
next_behind t b order rise =
    next_is t (branch_to t b ++ b ∷ []) ∙ filter_map-same (onward (branch_to t b ++ b ∷ [])) (behind b) t.paths each
  where
    each : (p : List ℕ) → Among p t.paths → onward (branch_to t b ++ b ∷ []) p ≡ behind b p
    each p inp =
        ⊎_elim
        (λ on. ap (λ v. onward (v ++ b ∷ []) p) (branch_is t b p order rise inp on) ∙ onward_behind b p on)
        (λ off. onward_off b (branch_to t b) p off ∙ sym (behind_off b p off))
        (cases_Bool (has b p))

-- the first steps
pub next_first : (t : Shape) → next_steps t [] ≡ filter_map (step_behind None) t.paths
next_first t = next_is t [] ∙ filter_map-same (onward []) (step_behind None) t.paths (λ p inp. refl)

-- where d goes on from v, some path has it behind v
pub goes_along : (t : Shape) (v : List ℕ) (d : ℕ) → goes_on_to t v d ≡ true → (p : List ℕ) × Among p t.paths × (onward v p ≡ Some d)
goes_along t v d on = given (onward v) t.paths d (sym (ap (has d) (next_is t v)) ∙ on)

pub goes_on : (t : Shape) (v : List ℕ) (d : ℕ) (p : List ℕ) → Among p t.paths → onward v p ≡ Some d → goes_on_to t v d ≡ true
goes_on t v d p inp e = ap (has d) (next_is t v) ∙ gives (onward v) t.paths d p inp e

-- the branch to a step is what it goes on from
pub branch_from : (t : Shape) (v : List ℕ) (d : ℕ) → AreInOrder t.paths → Each IsRising t.paths → goes_on_to t v d ≡ true → branch_to t d ≡ v
branch_from t v d order rise on =
    let along = goes_along t v d on in
    branch_is t d along.0 order rise along.1 (onward_has v along.0 d along.2)
    ∙ onward_before v along.0 d (Each-among IsRising t.paths along.0 rise along.1) along.2

-- a path that goes on from more than v goes on from v with the first step behind it
pub onward_first : (v u p : List ℕ) (x d : ℕ) → onward (v ++ x ∷ u) p ≡ Some d → onward v p ≡ Some x
onward_first [] u [] x d on = absurd (cc)
onward_first [] u (y ∷ p) x d on = ap Some (sym (onward_both x y d u p on).0)
onward_first (z ∷ v) u [] x d on = absurd (cc)
onward_first (z ∷ v) u (y ∷ p) x d on =
    let both = onward_both z y d (v ++ x ∷ u) p on in
    ap (λ b. if b then onward v p else None) (eq-eqb z y both.0) ∙ onward_first v u p x d both.1
