-- Play reaches each step of a process in which nothing before it is cut off.
use Rattle.process_tree.proofs.Wholes.{paths_part}
use Rattle.process_tree.proofs.Reached.{least_of, asks_there}
use Rattle.std.proofs.Common.{◌≡◌, ⊎_elim, ℕ, ◌+◌, ◌<◌, ◌≤◌, zero, suc, Bool, true, false, List, [], ◌∷◌, ◌++◌, length, take, filter, flat_map, ◌-◌, Option, Some, None, refl, sym, ap, ◌∙◌, arith, nat_lt, if◌then◌else◌, append_assoc, append-nil, take_all, slice_index, replicate}
use Rattle.std.proofs.lemmas.Bool.{cases_lt}
use Rattle.std.proofs.lemmas.List.{replicate-append-replicate}
use Rattle.process_tree.specs.declared.step.StepKind.{StepKind}
use Rattle.process_tree.specs.declared.step.StepKind.TheVariants.{C, P, R, Cr}
use Rattle.process_tree.specs.declared.play.Outcome.{Outcome}
use Rattle.process_tree.specs.declared.play.Outcome.TheVariants.{Done, Refused}
use Rattle.process_tree.specs.Blocks.{numbers_from}
use Rattle.process_tree.specs.Order.{Each, IsRising, AreInOrder, has}
use Rattle.process_tree.specs.Shape.{Shape, kind_of, can_be_refused, next_steps, goes_on_to, least, greatest, fixed_len, branch_to, last_after}
use Rattle.process_tree.specs.Play.{Stand, asks, follow, come_to, arrive, go_on, go_back, answered, stand_from, stand, kept_prefixes, fallback_of, kept_for}
use Rattle.process_tree.specs.Termination.{is_first_tried, tried_before, outcomes_along, outcomes_to}
use Rattle.process_tree.proofs.Numbers.{numbers_has, in_flat, to_flat, in_filter, to_filter, least_is}
use Rattle.process_tree.proofs.Onward.{onward_first, goes_along, goes_on, branch_from}
use Rattle.process_tree.proofs.Fixed.{fixed_le}
use Rattle.process_tree.proofs.Kept.{kept_goes_on}
use Rattle.well_formed.specs.Flaws.{IsOrderly, IsOn, way_before, is_sure_by, is_sure, is_way_sure, is_cut_off}
use Rattle.well_formed.proofs.Apart.{beyond}
use Rattle.well_formed.proofs.Below.{below, has_below, below_has, greatest_is, greatest_none}
use Rattle.well_formed.proofs.Falls.{falls_to, LeadsDown, leads_down}
use Rattle.well_formed.proofs.Standing.{on_branch, on_within, on_above, last_below, mid_below}
use Rattle.well_formed.proofs.Tried.{tried_below, tried_is, tried_more, tried_flat, tried_one, tried_through, not_tried}

-- the way before that of x where it goes on from v
pub before_is : (t : Shape) (v : List ℕ) (x : ℕ) → AreInOrder t.paths → Each IsRising t.paths → goes_on_to t v x ≡ true → way_before t x ≡ greatest (below x (next_steps t v))
before_is t v x order rise on = ap (λ w. greatest (below x (next_steps t w))) (branch_from t v x order rise on)

-- the step of v at a place, of which v has more
pub Each-at : (H : ℕ → Type 0) (v : List ℕ) (k : ℕ) → Each H v → k < length v → H (slice_index v k)
Each-at H [] k h lt = absurd (omega arith)
Each-at H (x ∷ v) zero h lt = h.0
Each-at H (x ∷ v) (suc k) h lt = Each-at H v k h.1 (omega arith)

-- a refused step falls back to the next way at the same choice, if there is one
pub nearest : (t : Shape) (v : List ℕ) (e x : ℕ) → IsOrderly t → goes_on_to t v x ≡ true → greatest (below x (next_steps t v)) ≡ Some e → fallback_of t v e ≡ Some x
nearest t v e x o on before = least_of (filter (λ d. nat_lt e d) (flat_map (next_steps t) (kept_prefixes t v))) x at none_nearer
  where
    most : (has e (below x (next_steps t v)) ≡ true) × ((d : ℕ) → has d (below x (next_steps t v)) ≡ true → d ≤ e)
    most = greatest_is (below x (next_steps t v)) e before

    under : (has e (next_steps t v) ≡ true) × (e < x)
    under = has_below x e (next_steps t v) most.0

    at : has x (filter (λ d. nat_lt e d) (flat_map (next_steps t) (kept_prefixes t v))) ≡ true
    at =
        let f = fixed_len t v in
        to_filter e x (flat_map (next_steps t) (kept_prefixes t v))
        (to_flat (next_steps t) (λ k. take k v) x (length v) (numbers_from f (length v - f + 1)) (numbers_has (length v) f (length v - f + 1) (fixed_le t v) (omega (arith, fixed_le t v)))
        (ap (λ w. has x (next_steps t w)) (take_all (length v) v (omega arith)) ∙ on))
        under.1

    none_nearer : (d : ℕ) → has d (filter (λ d. nat_lt e d) (flat_map (next_steps t) (kept_prefixes t v))) ≡ true → x ≤ d
    none_nearer d on_d =
        let f = fixed_len t v in
        let passed = in_filter e d (flat_map (next_steps t) (kept_prefixes t v)) on_d in
        let prefix = in_flat (next_steps t) (λ k. take k v) d (numbers_from f (length v - f + 1)) passed.0 in
        let k = prefix.0 in
        ⊎_elim
        (λ lt.
        let p = goes_along t v x on in
        let q = goes_along t (take k v) d prefix.2 in
        let up : slice_index v k < e = Each-at (λ b. b < e) v k (on_above t v e o under.0) lt in
        let far : x < d = beyond v p.0 q.0 k x d (paths_part t.paths p.0 q.0 o.in_order p.1 q.1) p.2 q.2 lt (omega (arith, passed.1)) in
        omega arith)
        (λ le.
        let same : has d (next_steps t v) ≡ true = sym (ap (λ w. has d (next_steps t w)) (take_all k v le)) ∙ prefix.2 in
        ⊎_elim (λ less. absurd (let h = most.1 d (below_has x d (next_steps t v) same less) in omega (arith, passed.1))) (λ le. le) (cases_lt d x))
        (cases_lt k (length v))

-- none of the steps below n is cut off
abbrev pub NoneCutOff : Shape → ℕ → Type 0
NoneCutOff t n = (y : ℕ) → y < n → IsOn t y → is_cut_off t y ≡ false

-- the way before one that isn't cut off isn't sure
pub way_open : (t : Shape) (v : List ℕ) (e x : ℕ) → IsOrderly t → goes_on_to t v x ≡ true → greatest (below x (next_steps t v)) ≡ Some e → is_cut_off t x ≡ false → is_sure t.kinds (e ∷ last_after t (v ++ e ∷ [])) ≡ false
way_open t v e x o on before whole =
    sym (ap (is_way_sure t v) (before_is t v x o.in_order o.rising on ∙ before))
    ∙ sym (ap (λ u. is_way_sure t u (way_before t x)) (branch_from t v x o.in_order o.rising on))
    ∙ whole

-- of a way that isn't sure some step can be refused, and falls back to the same
pub record IsOpen (t : Shape) (x : ℕ) : Type 0 where
  pub before : List ℕ
  pub step : ℕ
  pub on : goes_on_to t before step ≡ true
  pub may : can_be_refused (kind_of t step) ≡ true
  pub falls : fallback_of t before step ≡ Some x

pub opened : (m : ℕ) (t : Shape) (w : List ℕ) (e x : ℕ) → IsOrderly t → goes_on_to t w e ≡ true → fallback_of t w e ≡ Some x → is_sure t.kinds (e ∷ last_after t (w ++ e ∷ [])) ≡ false → x ≤ e + m → IsOpen t x
opened zero t w e x o on falls unsure le = let up = (falls_to t w e x falls).up in absurd (omega arith)
opened (suc m) t w e x o on falls unsure le = by_kind (kind_of t e) refl (λ f d. opened m t (w ++ e ∷ []) f x o d.on d.falls d.unsure (let up = d.up in omega arith))
  where
    here : can_be_refused (kind_of t e) ≡ true → IsOpen t x
    here may = record { before = w; step = e; on = on; may = may; falls = falls }

    by_kind : (k : StepKind) → kind_of t e ≡ k → ((f : ℕ) → LeadsDown t w e x f → IsOpen t x) → IsOpen t x
    by_kind C is rest = here (ap can_be_refused is)
    by_kind P is rest = here (ap can_be_refused is)
    by_kind R is rest = absurd (let f : true ≡ false = sym (ap (λ k. is_sure_by k (is_sure t.kinds (last_after t (w ++ e ∷ [])))) is) ∙ unsure in cc)
    by_kind Cr is rest = let down = leads_down t w e x o on falls is unsure in rest down.0 down.1

-- some outcomes, and then others
pub stand_append : (t : Shape) (s : Stand) (xs ys : List Outcome) → stand_from t s (xs ++ ys) ≡ stand_from t (stand_from t s xs) ys
stand_append t s [] ys = refl
stand_append t s (x ∷ xs) ys = stand_append t (answered t s x) xs ys

-- how many further steps are allowed doesn't matter, if they are enough
come_same : (n m : ℕ) (t : Shape) (w : List ℕ) (d : ℕ) → IsOrderly t → goes_on_to t w d ≡ true → length t.kinds ≤ d + n → length t.kinds ≤ d + m → come_to n t w d ≡ come_to m t w d
come_same zero m t w d o on le le' = let lt = on_within t w d o on in absurd (omega arith)
come_same (suc n) zero t w d o on le le' = let lt = on_within t w d o on in absurd (omega arith)
come_same (suc n) (suc m) t w d o on le le' =
    ap (λ s. if can_be_refused (kind_of t d) then asks w d else s)
    (by_next (least (next_steps t (w ++ d ∷ []))) refl (λ e on_e. let up = last_below w d e (on_above t (w ++ d ∷ []) e o on_e) in come_same n m t (w ++ d ∷ []) e o on_e (omega arith) (omega arith)))
  where
    by_next : (next : Option ℕ) → least (next_steps t (w ++ d ∷ [])) ≡ next → ((e : ℕ) → goes_on_to t (w ++ d ∷ []) e ≡ true → come_to n t (w ++ d ∷ []) e ≡ come_to m t (w ++ d ∷ []) e) → follow (come_to n t) (w ++ d ∷ []) next ≡ follow (come_to m t) (w ++ d ∷ []) next
    by_next None is rest = refl
    by_next (Some e) is rest = rest e (least_is (next_steps t (w ++ d ∷ [])) e is).0

-- a retriable step is done at once
done_at_once : (t : Shape) (v : List ℕ) (x : ℕ) → IsOrderly t → goes_on_to t v x ≡ true → can_be_refused (kind_of t x) ≡ false → arrive t v x ≡ go_on t (v ++ x ∷ [])
done_at_once t v x o on sure = by_count (length t.kinds) refl
  where
    by_count : (m : ℕ) → length t.kinds ≡ m → come_to m t v x ≡ go_on t (v ++ x ∷ [])
    by_count zero is = let lt = on_within t v x o on in absurd (omega arith)
    by_count (suc n) is =
        ap (λ b. if b then asks v x else follow (come_to n t) (v ++ x ∷ []) (least (next_steps t (v ++ x ∷ [])))) sure
        ∙ by_next (least (next_steps t (v ++ x ∷ []))) refl
      where
        by_next : (next : Option ℕ) → least (next_steps t (v ++ x ∷ [])) ≡ next → follow (come_to n t) (v ++ x ∷ []) next ≡ follow (arrive t) (v ++ x ∷ []) next
        by_next None none = refl
        by_next (Some e) some =
            let on_e = (least_is (next_steps t (v ++ x ∷ [])) e some).0 in
            let up = last_below v x e (on_above t (v ++ x ∷ []) e o on_e) in
            come_same n (length t.kinds) t (v ++ x ∷ []) e o on_e (omega arith) (omega arith)

-- a step is done
done : (t : Shape) (v : List ℕ) (x : ℕ) → IsOrderly t → goes_on_to t v x ≡ true → stand_from t (arrive t v x) (if can_be_refused (kind_of t x) then Done ∷ [] else []) ≡ go_on t (v ++ x ∷ [])
done t v x o on = by_kind (can_be_refused (kind_of t x)) refl
  where
    by_kind : (b : Bool) → can_be_refused (kind_of t x) ≡ b → stand_from t (arrive t v x) (if b then Done ∷ [] else []) ≡ go_on t (v ++ x ∷ [])
    by_kind true may = ap (λ s. answered t s Done) (asks_there t v x may)
    by_kind false sure = done_at_once t v x o on sure

-- refusals of those that are tried before x lead play to it
abbrev pub Passes : Shape → List ℕ → ℕ → Type 0
Passes t v x = stand_from t (go_on t v) (replicate (tried_below t v x) Refused) ≡ arrive t v x

-- a refused step falls back to where it does
back_to : (t : Shape) (w : List ℕ) (e x : ℕ) → IsOrderly t → goes_on_to t w e ≡ true → fallback_of t w e ≡ Some x → can_be_refused (kind_of t e) ≡ true → answered t (arrive t w e) Refused ≡ arrive t (branch_to t x) x
back_to t w e x o on falls may =
    ap (λ s. answered t s Refused) (asks_there t w e may)
    ∙ ap (go_back t w e) falls
    ∙ ap (λ v. arrive t v x) (sym (branch_from t (kept_for t w x) x o.in_order o.rising (kept_goes_on t w e x falls)))

-- one way is passed over, by the refusals of those that are tried in it
pub passes_way : (m : ℕ) (t : Shape) (w : List ℕ) (e x c : ℕ) → IsOrderly t → goes_on_to t w e ≡ true → fallback_of t w e ≡ Some x → is_sure t.kinds (e ∷ last_after t (w ++ e ∷ [])) ≡ false
    → ((v : List ℕ) (y : ℕ) → goes_on_to t v y ≡ true → y < x → Passes t v y) → x ≤ e + m → tried_below t w x ≡ tried_below t w e + c
    → stand_from t (arrive t w e) (replicate c Refused) ≡ arrive t (branch_to t x) x
passes_way zero t w e x c o on falls unsure passed le count = let up = (falls_to t w e x falls).up in absurd (omega arith)
passes_way (suc m) t w e x c o on falls unsure passed le count =
    by_kind (kind_of t e) refl (λ f d more few. passes_way m t (w ++ e ∷ []) f x more o d.on d.falls d.unsure passed (let up = d.up in omega arith) few)
  where
    v : List ℕ
    v = w ++ e ∷ []

    here : can_be_refused (kind_of t e) ≡ true → stand_from t (arrive t w e) (replicate c Refused) ≡ arrive t (branch_to t x) x
    here may =
        let one : c ≡ 1 = omega (arith, count, tried_one t w e x o on falls may) in
        ap (λ k. stand_from t (arrive t w e) (replicate k Refused)) one ∙ back_to t w e x o on falls may

    through : can_be_refused (kind_of t e) ≡ false → (f : ℕ) → LeadsDown t w e x f
        → ((more : ℕ) → tried_below t v x ≡ tried_below t v f + more → stand_from t (arrive t v f) (replicate more Refused) ≡ arrive t (branch_to t x) x)
        → stand_from t (arrive t w e) (replicate c Refused) ≡ arrive t (branch_to t x) x
    through never f d rest =
        let up = (falls_to t v f x d.falls).up in
        let before = tried_below t v f in
        let more = tried_below t v x - before in
        let few = tried_more t v f x (omega arith) in
        let split : c ≡ before + more = omega (arith, count, tried_through t w e x o on falls never, few) in
        ap (λ s. stand_from t s (replicate c Refused)) (done_at_once t w e o on never)
        ∙ ap (stand_from t (go_on t v)) (ap (λ k. replicate k Refused) split ∙ sym (replicate-append-replicate before more Refused))
        ∙ stand_append t (go_on t v) (replicate before Refused) (replicate more Refused)
        ∙ ap (λ s. stand_from t s (replicate more Refused)) (passed v f d.on up)
        ∙ rest more (omega (arith, few))

    by_kind : (k : StepKind) → kind_of t e ≡ k
        → ((f : ℕ) → LeadsDown t w e x f → (more : ℕ) → tried_below t v x ≡ tried_below t v f + more → stand_from t (arrive t v f) (replicate more Refused) ≡ arrive t (branch_to t x) x)
        → stand_from t (arrive t w e) (replicate c Refused) ≡ arrive t (branch_to t x) x
    by_kind C is rest = here (ap can_be_refused is)
    by_kind P is rest = here (ap can_be_refused is)
    by_kind R is rest = absurd (let f : true ≡ false = sym (ap (λ k. is_sure_by k (is_sure t.kinds (last_after t (w ++ e ∷ [])))) is) ∙ unsure in cc)
    by_kind Cr is rest = let down = leads_down t w e x o on falls is unsure in through (ap can_be_refused is) down.0 down.1 (rest down.0 down.1)

-- none is tried before the first way
none_first : (t : Shape) (v : List ℕ) (x : ℕ) → IsOrderly t → goes_on_to t v x ≡ true → ((e : ℕ) → goes_on_to t v e ≡ true → x ≤ e) → tried_below t v x ≡ 0
none_first t v x o on first = tried_flat t v 0 x (omega arith) (λ y from to. not_tried t v y (λ is. by_rest y to is.rest is.is))
  where
    by_rest : (y : ℕ) → y < x → (rest : List ℕ) → branch_to t y ≡ v ++ rest → ⊥
    by_rest y lt rest is = by_first rest (ap (λ u. goes_on_to t u y) (sym is) ∙ o.covered y (let in_t = on_within t v x o on in omega arith))
      where
        by_first : (rest : List ℕ) → goes_on_to t (v ++ rest) y ≡ true → ⊥
        by_first [] on_y = let le = first y (sym (ap (λ u. goes_on_to t u y) (append-nil v)) ∙ on_y) in omega arith
        by_first (z ∷ more) on_y =
            let p = goes_along t (v ++ z ∷ more) y on_y in
            let le = first z (goes_on t v z p.0 p.1 (onward_first v more p.0 z y p.2)) in
            let up : z < y = mid_below v z more y (on_above t (v ++ z ∷ more) y o on_y) in
            omega arith

-- all ways before x are passed over
pub passes : (n : ℕ) (t : Shape) (v : List ℕ) (x : ℕ) → IsOrderly t → goes_on_to t v x ≡ true → NoneCutOff t (x + 1) → x < n → Passes t v x
passes zero t v x o on whole lt = absurd (omega arith)
passes (suc n) t v x o on whole lt = by_before (greatest (below x (next_steps t v))) refl (λ u y on_y less. passes n t u y o on_y (λ z under. whole z (omega arith)) (omega arith))
  where
    by_before : (g : Option ℕ) → greatest (below x (next_steps t v)) ≡ g → ((u : List ℕ) (y : ℕ) → goes_on_to t u y ≡ true → y < x → Passes t u y) → Passes t v x
    by_before None is rest =
        let none = greatest_none (below x (next_steps t v)) is in
        let low : (e : ℕ) → goes_on_to t v e ≡ true → x ≤ e = λ e on_e. ⊎_elim (λ less. absurd (let h = sym (ap (has e) none) ∙ below_has x e (next_steps t v) on_e less in cc)) (λ le. le) (cases_lt e x) in
        ap (λ k. stand_from t (go_on t v) (replicate k Refused)) (none_first t v x o on low) ∙ ap (follow (arrive t) v) (least_of (next_steps t v) x on low)
    by_before (Some e) is rest =
        let under = has_below x e (next_steps t v) (greatest_is (below x (next_steps t v)) e is).0 in
        let up = under.1 in
        let before = tried_below t v e in
        let more = tried_below t v x - before in
        let few = tried_more t v e x (omega arith) in
        let split : tried_below t v x ≡ before + more = omega (arith, few) in
        let unsure = way_open t v e x o on is (whole x (omega arith) (on_branch t v x o on)) in
        ap (stand_from t (go_on t v)) (ap (λ k. replicate k Refused) split ∙ sym (replicate-append-replicate before more Refused))
        ∙ stand_append t (go_on t v) (replicate before Refused) (replicate more Refused)
        ∙ ap (λ s. stand_from t s (replicate more Refused)) (rest v e under.0 up)
        ∙ passes_way x t v e x more o under.0 (nearest t v e x o on is) unsure rest (omega arith) split
        ∙ ap (λ u. arrive t u x) (branch_from t v x o.in_order o.rising on)

-- the refusals that are passed over before x are those of the steps that are tried before it
pub tried_count : (t : Shape) (v : List ℕ) (x : ℕ) → IsOrderly t → goes_on_to t v x ≡ true → length (tried_before t x) ≡ tried_below t v x
tried_count t v x o on = ap (λ u. length (filter (is_first_tried t u) (numbers_from 0 x))) (branch_from t v x o.in_order o.rising on) ∙ tried_is t v x

-- so the outcomes before x lead play to it
passes_over : (t : Shape) (v : List ℕ) (x : ℕ) → IsOrderly t → goes_on_to t v x ≡ true → NoneCutOff t (x + 1) → stand_from t (go_on t v) (replicate (length (tried_before t x)) Refused) ≡ arrive t v x
passes_over t v x o on whole = ap (λ k. stand_from t (go_on t v) (replicate k Refused)) (tried_count t v x o on) ∙ passes (x + 1) t v x o on whole (omega arith)

-- the outcomes along a branch but for the last lead play to its end
pub along : (xs : List ℕ) (t : Shape) (v : List ℕ) (b : ℕ) → IsOrderly t → goes_on_to t (v ++ xs) b ≡ true → NoneCutOff t (b + 1)
    → (os : List Outcome) × (outcomes_along t xs b ≡ os ++ Refused ∷ []) × (stand_from t (go_on t v) os ≡ arrive t (v ++ xs) b)
along [] t v b o on whole =
    let on' = sym (ap (λ w. goes_on_to t w b) (append-nil v)) ∙ on in
    (replicate (length (tried_before t b)) Refused, refl, passes_over t v b o on' whole ∙ sym (ap (λ w. arrive t w b) (append-nil v)))
along (x ∷ xs) t v b o on whole =
    let p = goes_along t (v ++ x ∷ xs) b on in
    let on_x = goes_on t v x p.0 p.1 (onward_first v xs p.0 x b p.2) in
    let up = mid_below v x xs b (on_above t (v ++ x ∷ xs) b o on) in
    let assoc = append_assoc v (x ∷ []) xs in
    let rest = along xs t (v ++ x ∷ []) b o (ap (λ w. goes_on_to t w b) assoc ∙ on) whole in
    let refused = replicate (length (tried_before t x)) Refused in
    let first = if can_be_refused (kind_of t x) then Done ∷ [] else [] in (
      refused ++ (first ++ rest.0),
      append_assoc refused first (outcomes_along t xs b)
          ∙ ap (λ os. refused ++ (first ++ os)) rest.1
          ∙ ap (λ os. refused ++ os) (sym (append_assoc first rest.0 (Refused ∷ [])))
          ∙ sym (append_assoc refused (first ++ rest.0) (Refused ∷ [])),
      stand_append t (go_on t v) refused (first ++ rest.0)
          ∙ ap (λ s. stand_from t s (first ++ rest.0)) (passes_over t v x o on_x (λ y under. whole y (omega arith)))
          ∙ stand_append t (arrive t v x) first rest.0
          ∙ ap (λ s. stand_from t s rest.0) (done t v x o on_x)
          ∙ rest.2
          ∙ ap (λ w. arrive t w b) assoc,
    )

-- the outcomes to a step but for the last lead play to it
pub reaches : (t : Shape) (b : ℕ) → IsOrderly t → IsOn t b → NoneCutOff t (b + 1) → (os : List Outcome) × (outcomes_to t b ≡ os ++ Refused ∷ []) × (stand t os ≡ arrive t (branch_to t b) b)
reaches t b o on whole = along (branch_to t b) t [] b o on whole
