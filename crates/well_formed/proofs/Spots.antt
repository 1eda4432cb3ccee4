-- A step at a place of a path stands behind the same steps on all paths, so its place tells whether a path goes on from them.
use Rattle.std.proofs.lemmas.Bool.{eq-eqb, ne_eqb, cases_Bool}
use Rattle.std.proofs.Common.{◌≡◌, ⊎_elim, ℕ, ◌<◌, zero, suc, Bool, true, false, List, [], ◌∷◌, ◌++◌, length, take, Option, Some, None, refl, sym, ap, ◌∙◌, arith, nat_lt, if◌then◌else◌, slice_index}
use Rattle.std.proofs.lemmas.Bool.Decides.{eqb_tells}
use Rattle.std.proofs.lemmas.List.{length-take-le}
use Rattle.std.specs.List.{filter_map, cons_option, slice_get}
use Rattle.process_tree.specs.Order.{Each, IsRising, AreInOrder, has}
use Rattle.process_tree.specs.Paths.{behind}
use Rattle.process_tree.specs.Shape.{Shape, first_of, next_steps, goes_on_to, steps_before}
use Rattle.process_tree.proofs.Branches.{has_cases, has_here, has_there, before_here, before_there, Each-has, Among, Each-among, branch_is}
use Rattle.process_tree.proofs.Onward.{onward, onward_has, onward_before, onward_behind, onward_off, filter_map-same, next_is, goes_along}
use Rattle.well_formed.specs.Spots.{is_step, stands_at, step_on, if_earlier, earlier_way}
use Rattle.well_formed.proofs.Apart.{onward_at}
use Rattle.well_formed.proofs.Below.{below}

-- it is that step
pub step_is : (c : ℕ) (o : Option ℕ) → is_step c o ≡ true → o ≡ Some c
step_is c None is = absurd (cc)
step_is c (Some x) is = ⊎_elim (λ t. ap Some t.1) (λ f. absurd (let g = f.0 in cc)) (eqb_tells x c)

pub is_that : (c : ℕ) (o : Option ℕ) → o ≡ Some c → is_step c o ≡ true
is_that c o is = ap (is_step c) is ∙ eq-eqb c c refl

-- the steps before a place of a path
pub at_place : (c k : ℕ) (p : List ℕ) → IsRising p → slice_get p k ≡ Some c → (has c p ≡ true) × (steps_before c p ≡ take k p)
at_place c k [] rise is = absurd (cc)
at_place c zero (x ∷ p) rise is = let same : c ≡ x = (let e : Some x ≡ Some c = is in cc) in (has_here c x p same, before_here c x p same)
at_place c (suc k) (x ∷ p) rise is =
    let rest = at_place c k p rise.1 is in
    let up : x < c = Each-has (λ z. x < z) p c rise.0 rest.0 in
    (has_there c x p rest.0, before_there c x p (λ e. omega arith) ∙ ap (λ xs. x ∷ xs) rest.1)

-- the place of a step
pub place_is : (c : ℕ) (p : List ℕ) → has c p ≡ true → slice_get p (length (steps_before c p)) ≡ Some c
place_is c [] on = absurd (cc)
place_is c (x ∷ p) on =
    ⊎_elim
    (λ e. ap (λ v. slice_get (x ∷ p) (length v)) (before_here c x p e) ∙ ap Some (sym e))
    (λ rest. ap (λ v. slice_get (x ∷ p) (length v)) (before_there c x p rest.0) ∙ place_is c p rest.1)
    (has_cases c x p on)

-- what stands behind it
first_is : (p : List ℕ) → first_of p ≡ slice_get p 0
first_is [] = refl
first_is (x ∷ p) = refl

behind_is : (c : ℕ) (p : List ℕ) → has c p ≡ true → behind c p ≡ slice_get p (suc (length (steps_before c p)))
behind_is c [] on = absurd (cc)
behind_is c (x ∷ p) on =
    ⊎_elim
    (λ e.
    ap (λ t. if t then first_of p else behind c p) (eq-eqb x c (sym e))
    ∙ first_is p
    ∙ sym (ap (λ v. slice_get (x ∷ p) (suc (length v))) (before_here c x p e)))
    (λ rest.
    ap (λ t. if t then first_of p else behind c p) (ne_eqb x c (λ e. rest.0 (sym e)))
    ∙ behind_is c p rest.1
    ∙ sym (ap (λ v. slice_get (x ∷ p) (suc (length v))) (before_there c x p rest.0)))
    (has_cases c x p on)

-- all but the last of a list, and the last
take_last : (w : List ℕ) (k : ℕ) → length w ≡ suc k → w ≡ take k w ++ slice_index w k ∷ []
take_last [] k is = absurd (omega arith)
take_last (x ∷ []) zero is = refl
take_last (x ∷ y ∷ w) zero is = absurd (omega arith)
take_last (x ∷ w) (suc k) is = ap (λ v. x ∷ v) (take_last w k (omega (arith, is)))

-- the last step of w stands at its place on the paths that go through it, and on no others
pub step_on_is : (k : ℕ) (t : Shape) (w : List ℕ) (b : ℕ) (q : List ℕ) → AreInOrder t.paths → Each IsRising t.paths → goes_on_to t w b ≡ true → Among q t.paths → length w ≡ k → step_on k w q ≡ onward w q
step_on_is zero t [] b q order rise on inq is = refl
step_on_is zero t (x ∷ w) b q order rise on inq is = absurd (omega arith)
step_on_is (suc k) t w b q order rise on inq is =
    ⊎_elim at (λ off. not_at (has c q) refl off) (cases_Bool (stands_at c k q))
  where
    c : ℕ
    c = slice_index w k

    along : (p : List ℕ) × Among p t.paths × (onward w p ≡ Some b)
    along = goes_along t w b on

    p : List ℕ
    p = along.0

    on_c : onward (take k w) p ≡ Some c
    on_c = onward_at w p b k along.2 (omega arith)

    -- wherever c is, the same steps stand before it
    before : has c q ≡ true → steps_before c q ≡ take k w
    before on_q =
        sym (branch_is t c q order rise inq on_q)
        ∙ branch_is t c p order rise along.1 (onward_has (take k w) p c on_c)
        ∙ onward_before (take k w) p c (Each-among IsRising t.paths p rise along.1) on_c

    place : has c q ≡ true → length (steps_before c q) ≡ k
    place on_q = ap length (before on_q) ∙ length-take-le k w (omega (arith, is))

    whole : w ≡ take k w ++ c ∷ []
    whole = take_last w k is

    at : stands_at c k q ≡ true → step_on (suc k) w q ≡ onward w q
    at here =
        let on_q = (at_place c k q (Each-among IsRising t.paths q rise inq) (step_is c (slice_get q k) here)).0 in
        ap (λ t. if t then slice_get q (suc k) else None) here
        ∙ sym (ap (λ n. slice_get q (suc n)) (place on_q))
        ∙ sym (behind_is c q on_q)
        ∙ sym (onward_behind c q on_q)
        ∙ ap (λ v. onward (v ++ c ∷ []) q) (before on_q)
        ∙ sym (ap (λ v. onward v q) whole)

    not_at : (h : Bool) → has c q ≡ h → stands_at c k q ≡ false → step_on (suc k) w q ≡ onward w q
    not_at true on_q off =
        let here = is_that c (slice_get q k) (sym (ap (slice_get q) (place on_q)) ∙ place_is c q on_q) in
        absurd (let f : true ≡ false = sym here ∙ off in cc)
    not_at false off_q off =
        ap (λ t. if t then slice_get q (suc k) else None) off
        ∙ sym (onward_off c (take k w) q off_q)
        ∙ sym (ap (λ v. onward v q) whole)

-- those of the given that are below d
below_given : (d : ℕ) (f : List ℕ → Option ℕ) (ps : List (List ℕ)) → below d (filter_map f ps) ≡ filter_map (λ p. if_earlier d (f p)) ps
below_given d f [] = refl
below_given d f (p ∷ ps) = by_head (f p) (below_given d f ps)
  where
    by_head : (o : Option ℕ) → below d (filter_map f ps) ≡ filter_map (λ p. if_earlier d (f p)) ps → below d (cons_option o (filter_map f ps)) ≡ cons_option (if_earlier d o) (filter_map (λ p. if_earlier d (f p)) ps)
    by_head None rest = rest
    by_head (Some x) rest = by_lt (nat_lt x d)
      where
        by_lt : (t : Bool) → (if t then x ∷ below d (filter_map f ps) else below d (filter_map f ps)) ≡ cons_option (if t then Some x else None) (filter_map (λ p. if_earlier d (f p)) ps)
        by_lt true = ap (λ xs. x ∷ xs) rest
        by_lt false = rest

-- the ways before d, as they are looked up
pub earlier_ways : (t : Shape) (w : List ℕ) (b d : ℕ) → AreInOrder t.paths → Each IsRising t.paths → goes_on_to t w b ≡ true → filter_map (earlier_way w d) t.paths ≡ below d (next_steps t w)
earlier_ways t w b d order rise on =
    filter_map-same (earlier_way w d) (λ p. if_earlier d (onward w p)) t.paths (λ q inq. ap (if_earlier d) (step_on_is (length w) t w b q order rise on inq refl))
    ∙ sym (below_given d (onward w) t.paths)
    ∙ sym (ap (below d) (next_is t w))
