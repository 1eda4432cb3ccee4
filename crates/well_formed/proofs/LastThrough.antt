-- The last path through a step takes last alternatives behind it.
use Rattle.std.proofs.Common.{take-append-drop, ◌≡◌, ◌⊎◌, inl, inr, ⊎_elim, subst, ℕ, ◌<◌, ◌≤◌, zero, suc, Bool, true, false, List, [], ◌∷◌, ◌++◌, length, take, drop, Some, refl, sym, ap, ◌∙◌, arith, append_assoc, append-nil, if◌then◌else◌}
use Rattle.std.proofs.lemmas.Bool.{cases_Bool}
use Rattle.std.specs.List.{list_any, slice_get}
use Rattle.process_tree.specs.Order.{IsRising, PartsBelow, AreInOrder, has}
use Rattle.process_tree.specs.Shape.{Shape, next_steps, goes_on_to, greatest, last_after}
use Rattle.process_tree.proofs.Alternatives.{onward_after}
use Rattle.process_tree.proofs.Branches.{has_here, has_there, Among, Each-among, branch_is}
use Rattle.process_tree.proofs.InTurn.{last_step, last_after_none}
use Rattle.process_tree.proofs.LastPath.{greatest_of}
use Rattle.process_tree.proofs.Onward.{onward, onward_both, onward_has, onward_before, onward_self, goes_along, goes_on, branch_from}
use Rattle.process_tree.proofs.Wholes.{among_whole, whole_ends}
use Rattle.well_formed.specs.Flaws.{IsOrderly}
use Rattle.well_formed.specs.Spots.{stands_at, last_through}
use Rattle.well_formed.proofs.Spots.{step_is, is_that, at_place, place_is}
use Rattle.well_formed.proofs.WaysOn.{any_among, among_any}

-- the last of the paths that have c at place k
record IsLast (c k : ℕ) (ps : List (List ℕ)) (q : List ℕ) : Type 0 where
  among : Among q ps
  stands : stands_at c k q ≡ true
  last : (p : List ℕ) → Among p ps → stands_at c k p ≡ true → (p ≡ q) ⊎ PartsBelow p q

-- where none has it, what was found before stays
none_through : (c k : ℕ) (ps : List (List ℕ)) (found : List ℕ) → ((p : List ℕ) → Among p ps → stands_at c k p ≡ false) → last_through c k ps found ≡ found
none_through c k [] found none = refl
none_through c k (p ∷ ps) found none =
    ap (λ b. last_through c k ps (if b then p else found)) (none p (inl refl)) ∙ none_through c k ps found (λ q inq. none q (inr inq))

-- where one has it, the last of them is found
found_last : (c k : ℕ) (ps : List (List ℕ)) (found q : List ℕ) → AreInOrder ps → Among q ps → stands_at c k q ≡ true → IsLast c k ps (last_through c k ps found)
found_last c k [] found q order inq at = absurd inq
found_last c k (p ∷ ps) found q order inq at = by_rest (list_any (stands_at c k) ps) refl (λ r inr_ps on. found_last c k ps (if stands_at c k p then p else found) r order.1 inr_ps on)
  where
    by_rest : (b : Bool) → list_any (stands_at c k) ps ≡ b → ((r : List ℕ) → Among r ps → stands_at c k r ≡ true → IsLast c k ps (last_through c k (p ∷ ps) found)) → IsLast c k (p ∷ ps) (last_through c k (p ∷ ps) found)
    by_rest true some later =
        let r = any_among (stands_at c k) ps some in
        let l = later r.0 r.1 r.2 in
        let z = last_through c k (p ∷ ps) found in
        record {
          among = inr l.among;
          stands = l.stands;
          last = λ y iny on. ⊎_elim (λ e. inr (subst (λ x. PartsBelow x z) (sym e) (Each-among (PartsBelow p) ps z order.0 l.among))) (λ rest. l.last y rest on) iny;
        }
    by_rest false none later =
        let never : (y : List ℕ) → Among y ps → stands_at c k y ≡ false = λ y iny. ⊎_elim (λ on. absurd (let f : true ≡ false = sym (among_any (stands_at c k) ps y iny on) ∙ none in cc)) (λ off. off) (cases_Bool (stands_at c k y)) in
        let here : stands_at c k p ≡ true = ⊎_elim (λ e. ap (stands_at c k) (sym e) ∙ at) (λ rest. absurd (let f : true ≡ false = sym at ∙ never q rest in cc)) inq in
        let is : last_through c k (p ∷ ps) found ≡ p = none_through c k ps (if stands_at c k p then p else found) never ∙ ap (λ b. if b then p else found) here in
        subst (IsLast c k (p ∷ ps)) (sym is) (record {
          among = inl refl;
          stands = here;
          last = λ y iny on. ⊎_elim (λ e. inl e) (λ rest. absurd (let f : true ≡ false = sym on ∙ never y rest in cc)) iny;
        })

-- a path that goes on from u with e is u, e and a rest
onward_split : (u p : List ℕ) (e : ℕ) → onward u p ≡ Some e → (s : List ℕ) × (p ≡ u ++ e ∷ s)
onward_split [] [] e on = absurd (cc)
onward_split [] (y ∷ p) e on = (p, let same : y ≡ e = (let f : Some y ≡ Some e = on in cc) in ap (λ z. z ∷ p) same)
onward_split (x ∷ u) [] e on = absurd (cc)
onward_split (x ∷ u) (y ∷ p) e on =
    let both = onward_both x y e u p on in
    let rest = onward_split u p e both.1 in
    (rest.0, ap (λ z. z ∷ p) (sym both.0) ∙ ap (λ zs. x ∷ zs) rest.1)

-- of two paths that part, the earlier goes on from what both have with no greater step
below_at : (u p q : List ℕ) (e x : ℕ) → PartsBelow p q → onward u p ≡ Some e → onward u q ≡ Some x → e ≤ x
below_at u [] q e x part on_p on_q = absurd part
below_at u (y ∷ p) [] e x part on_p on_q = absurd part
below_at [] (y ∷ p) (z ∷ q) e x part on_p on_q =
    let first : y ≡ e = (let f : Some y ≡ Some e = on_p in cc) in
    let second : z ≡ x = (let f : Some z ≡ Some x = on_q in cc) in
    ⊎_elim (λ both. let same : y ≡ z = both.0 in omega arith) (λ below. let lt : y < z = below.0 in omega arith) part
below_at (w ∷ u) (y ∷ p) (z ∷ q) e x part on_p on_q =
    let first = onward_both w y e u p on_p in
    let second = onward_both w z x u q on_q in
    ⊎_elim
    (λ both. below_at u p q e x both.1 first.1 second.1)
    (λ below. let lt : y < z = below.0 in let one : w ≡ y = first.0 in let two : w ≡ z = second.0 in absurd (omega arith))
    part

-- the last path that begins with u goes on through last alternatives
ends_last : (r : List ℕ) (t : Shape) (u q : List ℕ) → IsOrderly t → q ≡ u ++ r → Among q t.paths → ((p s : List ℕ) → Among p t.paths → p ≡ u ++ s → (p ≡ q) ⊎ PartsBelow p q) → last_after t u ≡ r
ends_last [] t u q o is inq last =
    let whole = among_whole u t.paths (subst (λ p. Among p t.paths) (is ∙ append-nil u) inq) in
    last_after_none t u (ap greatest (whole_ends t u o.in_order whole))
ends_last (x ∷ r) t u q o is inq last =
    last_step t (length t.kinds) u x o.rising o.within (greatest_of (next_steps t u) x (goes_on t u x q inq on_q) most)
    ∙ ap (λ xs. x ∷ xs) (ends_last r t (u ++ x ∷ []) q o (is ∙ sym (append_assoc u (x ∷ []) r)) inq (λ p s inp is_p. last p (x ∷ s) inp (is_p ∙ append_assoc u (x ∷ []) s)))
  where
    on_q : onward u q ≡ Some x
    on_q = ap (onward u) is ∙ onward_after u x r

    most : (e : ℕ) → has e (next_steps t u) ≡ true → e ≤ x
    most e on =
        let p = goes_along t u e on in
        let split = onward_split u p.0 e p.2 in
        ⊎_elim
        (λ same. let f : Some e ≡ Some x = sym p.2 ∙ ap (onward u) same ∙ on_q in let g : e ≡ x = cc in omega arith)
        (λ part. below_at u p.0 q e x part p.2 on_q)
        (last p.0 (e ∷ split.0) p.1 split.1)

-- a step that goes on from v stands behind it
stands_on : (v p : List ℕ) (x : ℕ) → IsRising p → onward v p ≡ Some x → stands_at x (length v) p ≡ true
stands_on v p x rise on = is_that x (slice_get p (length v)) (ap (λ u. slice_get p (length u)) (sym (onward_before v p x rise on)) ∙ place_is x p (onward_has v p x on))

-- q is the last path that begins with u
pub record IsLastWith (t : Shape) (u q : List ℕ) : Type 0 where
  pub among : Among q t.paths
  pub last : (p s : List ℕ) → Among p t.paths → p ≡ u ++ s → (p ≡ q) ⊎ PartsBelow p q

-- so where x stands on it behind v, it is the last that begins with both, and takes last alternatives from there on
pub record IsThrough (t : Shape) (v : List ℕ) (x : ℕ) (q : List ℕ) : Type 0 where
  pub with_both : IsLastWith t (v ++ x ∷ []) q
  pub is : q ≡ v ++ x ∷ last_after t (v ++ x ∷ [])

through_at : (t : Shape) (v : List ℕ) (x : ℕ) (q : List ℕ) → IsOrderly t → goes_on_to t v x ≡ true → stands_at x (length v) q ≡ true → IsLastWith t (v ++ x ∷ []) q → IsThrough t v x q
through_at t v x q o on at l = record { with_both = l; is = split.1 ∙ ap (λ r. v ++ x ∷ r) (sym rest) }
  where
    rise : IsRising q
    rise = Each-among IsRising t.paths q o.rising l.among

    on_q : onward v q ≡ Some x
    on_q =
        let there = at_place x (length v) q rise (step_is x (slice_get q (length v)) at) in
        let before = sym (branch_is t x q o.in_order o.rising l.among there.0) ∙ branch_from t v x o.in_order o.rising on in
        sym (ap (λ u. onward u q) before) ∙ onward_self x q there.0

    split : (s : List ℕ) × (q ≡ v ++ x ∷ s)
    split = onward_split v q x on_q

    rest : last_after t (v ++ x ∷ []) ≡ split.0
    rest = ends_last split.0 t (v ++ x ∷ []) q o (split.1 ∙ sym (append_assoc v (x ∷ []) split.0)) l.among l.last

-- the last path through x, where x goes on from v
pub through_is : (t : Shape) (v : List ℕ) (x : ℕ) → IsOrderly t → goes_on_to t v x ≡ true → IsThrough t v x (last_through x (length v) t.paths [])
through_is t v x o on =
    let first = goes_along t v x on in
    let found = found_last x (length v) t.paths [] first.0 o.in_order first.1 (stands_on v first.0 x (Each-among IsRising t.paths first.0 o.rising first.1) first.2) in
    through_at t v x (last_through x (length v) t.paths []) o on found.stands
    (record {
      among = found.among;
      last = λ p s inp is. found.last p inp (stands_on v p x (Each-among IsRising t.paths p o.rising inp) (ap (onward v) (is ∙ append_assoc v (x ∷ []) s) ∙ onward_after v x s));
    })

-- the last path that begins with some of v is the last through x, where x stands on it
pub still_through : (t : Shape) (v : List ℕ) (n x : ℕ) (q : List ℕ) → IsOrderly t → goes_on_to t v x ≡ true → stands_at x (length v) q ≡ true → IsLastWith t (take n v) q → IsThrough t v x q
still_through t v n x q o on at l =
    through_at t v x q o on at
    (record {
      among = l.among;
      last = λ p s inp is.
          l.last p (drop n v ++ (x ∷ s)) inp
          (is ∙ append_assoc v (x ∷ []) s ∙ ap (λ u. u ++ (x ∷ s)) (sym (take-append-drop n v)) ∙ append_assoc (take n v) (drop n v) (x ∷ s));
    })

-- a step at a place is in what follows an earlier one
has_drop : (n j y : ℕ) (q : List ℕ) → n ≤ j → slice_get q j ≡ Some y → has y (drop n q) ≡ true
has_drop n j y [] le at = absurd (cc)
has_drop zero zero y (x ∷ q) le at = has_here y x q (let f : Some x ≡ Some y = at in cc)
has_drop zero (suc j) y (x ∷ q) le at = has_there y x q (has_drop zero j y q (omega arith) at)
has_drop (suc n) zero y (x ∷ q) le at = absurd (omega arith)
has_drop (suc n) (suc j) y (x ∷ q) le at = has_drop n j y q (omega arith) at

dropped_has : (n y : ℕ) (q : List ℕ) → has y (drop n q) ≡ true → has y q ≡ true
dropped_has zero y q on = on
dropped_has (suc n) y [] on = on
dropped_has (suc n) y (x ∷ q) on = has_there y x q (dropped_has n y q on)

-- a step that goes on from v is in what follows the first n steps of a path if it stands behind v there
pub stands_or_has : (t : Shape) (v q : List ℕ) (n y : ℕ) → IsOrderly t → goes_on_to t v y ≡ true → Among q t.paths → n ≤ length v → stands_at y (length v) q ≡ has y (drop n q)
stands_or_has t v q n y o on inq le =
    ⊎_elim
    (λ at. at ∙ sym (has_drop n (length v) y q le (step_is y (slice_get q (length v)) at)))
    (λ off. off ∙ sym (⊎_elim (λ h. absurd (let f : true ≡ false = sym (there h) ∙ off in cc)) (λ no. no) (cases_Bool (has y (drop n q)))))
    (cases_Bool (stands_at y (length v) q))
  where
    there : has y (drop n q) ≡ true → stands_at y (length v) q ≡ true
    there h =
        let on_q = dropped_has n y q h in
        let before = sym (branch_is t y q o.in_order o.rising inq on_q) ∙ branch_from t v y o.in_order o.rising on in
        is_that y (slice_get q (length v)) (ap (λ u. slice_get q (length u)) (sym before) ∙ place_is y q on_q)
