-- Where a refused step falls back to: the nearest later way on, above all that goes on from the step itself.
use Rattle.std.proofs.Common.{◌≡◌, ⊎_elim, ℕ, ◌+◌, ◌-◌, ◌<◌, ◌≤◌, zero, suc, Bool, true, false, List, [], ◌∷◌, ◌++◌, length, take, filter, flat_map, Option, Some, None, refl, sym, ap, ◌∙◌, arith, length-append, nat_eq, nat_lt, if◌then◌else◌, slice_index}
use Rattle.std.proofs.lemmas.Bool.{cases_lt, cases_Bool}
use Rattle.std.proofs.lemmas.List.{length-take-le}
use Rattle.process_tree.specs.declared.step.StepKind.TheVariants.{Cr}
use Rattle.process_tree.specs.Blocks.{numbers_from}
use Rattle.process_tree.specs.Order.{Each, has}
use Rattle.process_tree.specs.Shape.{Shape, kind_of, next_steps, goes_on_to, greatest, fixed_len, commits_by_kind, last_after}
use Rattle.process_tree.specs.Play.{kept_prefixes, fallback_of}
use Rattle.process_tree.specs.Recovery.{forward}
use Rattle.process_tree.proofs.Fixed.{fixed_le, fixed_more, take_whole, take_front}
use Rattle.process_tree.proofs.InTurn.{goes_up, last_step, last_after_none}
use Rattle.process_tree.proofs.LastPath.{on_last, no_way_on}
use Rattle.process_tree.proofs.Numbers.{numbers_has, numbers_between, in_flat, to_flat, in_filter, to_filter, least_is}
use Rattle.process_tree.proofs.Onward.{onward, goes_along, branch_from}
use Rattle.process_tree.proofs.Reached.{least_of}
use Rattle.process_tree.proofs.Wholes.{paths_part}
use Rattle.well_formed.specs.Flaws.{IsOrderly, is_sure, is_sure_by}
use Rattle.well_formed.proofs.Apart.{beyond}
use Rattle.well_formed.proofs.Below.{greatest_is}
use Rattle.well_formed.proofs.Standing.{on_above}

-- x goes on from a beginning of w that has its commit points, and of those behind e it is the nearest
pub record FallsTo (t : Shape) (w : List ℕ) (e x : ℕ) : Type 0 where
  pub up : e < x
  pub keep : ℕ
  pub fixed : fixed_len t w ≤ keep
  pub within : keep ≤ length w
  pub way : goes_on_to t (take keep w) x ≡ true
  pub nearest : (j d : ℕ) → fixed_len t w ≤ j → j ≤ length w → goes_on_to t (take j w) d ≡ true → e < d → x ≤ d

-- the ways on behind e
abbrev ways_on : Shape → List ℕ → ℕ → List ℕ
ways_on t w e = filter (λ d. nat_lt e d) (flat_map (next_steps t) (kept_prefixes t w))

way_on_has : (t : Shape) (w : List ℕ) (e j d : ℕ) → fixed_len t w ≤ j → j ≤ length w → goes_on_to t (take j w) d ≡ true → e < d → has d (ways_on t w e) ≡ true
way_on_has t w e j d from to on up =
    let f = fixed_len t w in
    to_filter e d (flat_map (next_steps t) (kept_prefixes t w)) (to_flat (next_steps t) (λ k. take k w) d j (numbers_from f (length w - f + 1)) (numbers_has j f (length w - f + 1) from (omega arith)) on) up

pub falls_to : (t : Shape) (w : List ℕ) (e x : ℕ) → fallback_of t w e ≡ Some x → FallsTo t w e x
falls_to t w e x is =
    let f = fixed_len t w in
    let found = least_is (ways_on t w e) x is in
    let passed = in_filter e x (flat_map (next_steps t) (kept_prefixes t w)) found.0 in
    let prefix = in_flat (next_steps t) (λ k. take k w) x (numbers_from f (length w - f + 1)) passed.0 in
    let between = numbers_between prefix.0 f (length w - f + 1) prefix.1 in
    record {
      up = passed.1;
      keep = prefix.0;
      fixed = between.0;
      within = omega (arith, between.1, fixed_le t w);
      way = prefix.2;
      nearest = λ j d from to on up. found.1 d (way_on_has t w e j d from to on up);
    }

pub falls_back : (t : Shape) (w : List ℕ) (e x : ℕ) → FallsTo t w e x → fallback_of t w e ≡ Some x
falls_back t w e x f = least_of (ways_on t w e) x (way_on_has t w e f.keep x f.fixed f.within f.way f.up) none_nearer
  where
    none_nearer : (d : ℕ) → has d (ways_on t w e) ≡ true → x ≤ d
    none_nearer d on =
        let n = fixed_len t w in
        let passed = in_filter e d (flat_map (next_steps t) (kept_prefixes t w)) on in
        let prefix = in_flat (next_steps t) (λ k. take k w) d (numbers_from n (length w - n + 1)) passed.0 in
        let between = numbers_between prefix.0 n (length w - n + 1) prefix.1 in
        f.nearest prefix.0 d between.0 (omega (arith, between.1, fixed_le t w)) prefix.2 passed.1

-- the step of w, or e behind it, at a place is no greater than e
no_greater : (w : List ℕ) (e : ℕ) (u : List ℕ) (k : ℕ) → k ≤ length w → Each (λ y. y < e) w → slice_index (w ++ e ∷ u) k ≤ e
no_greater [] e u zero le below = omega arith
no_greater [] e u (suc k) le below = absurd (omega arith)
no_greater (y ∷ w) e u zero le below = let lt : y < e = below.0 in omega arith
no_greater (y ∷ w) e u (suc k) le below = no_greater w e u k (omega arith) below.1

-- what goes on from w and e is below a later step that goes on from a beginning of w
pub below_later : (t : Shape) (w : List ℕ) (e k x : ℕ) (u : List ℕ) (b : ℕ) → IsOrderly t → goes_on_to t w e ≡ true → k ≤ length w → goes_on_to t (take k w) x ≡ true → e < x → goes_on_to t (w ++ e ∷ u) b ≡ true → b < x
below_later t w e k x u b o on le way up on_b =
    let p = goes_along t (w ++ e ∷ u) b on_b in
    let q = goes_along t (take k w) x way in
    let long = length-append w (e ∷ u) in
    let few = no_greater w e u k le (on_above t w e o on) in
    beyond (w ++ e ∷ u) p.0 q.0 k b x (paths_part t.paths p.0 q.0 o.in_order p.1 q.1) p.2 (ap (λ v. onward v q.0) (take_front k w (e ∷ u) le) ∙ q.2) (omega (arith, long)) (omega (arith, few))

-- a step that falls back to another isn't owed
falls_is_free : (t : Shape) (w : List ℕ) (e x : ℕ) → IsOrderly t → goes_on_to t w e ≡ true → fallback_of t w e ≡ Some x → has e (forward t w) ≡ false
falls_is_free t w e x o on falls = by_owed (nat_eq (fixed_len t w) 0) refl
  where
    v : List ℕ
    v = take (fixed_len t w) w

    not_last : has e (last_after t v) ≡ true → ⊥
    not_last h =
        let l = on_last t (length t.kinds) v e o.rising h in
        let same : v ++ l.part ≡ w = sym (branch_from t (v ++ l.part) e o.in_order o.rising l.on) ∙ branch_from t w e o.in_order o.rising on in
        let count = length-take-le (fixed_len t w) w (fixed_le t w) in
        let here = ap (fixed_len t) same in
        let none = no_way_on t (length t.kinds) v e l (omega (arith, count, here)) in
        let f : None ≡ Some x = sym none ∙ ap (λ u. fallback_of t u e) same ∙ falls in
        cc

    by_owed : (c : Bool) → nat_eq (fixed_len t w) 0 ≡ c → has e (forward t w) ≡ false
    by_owed true is = ap (λ c. has e (if c then [] else last_after t v)) is
    by_owed false is = ap (λ c. has e (if c then [] else last_after t v)) is ∙ ⊎_elim (λ h. absurd (not_last h)) (λ f. f) (cases_Bool (has e (last_after t v)))

-- so it is no commit point, where it can be undone
pub fixes_nothing : (t : Shape) (w : List ℕ) (e x : ℕ) → IsOrderly t → goes_on_to t w e ≡ true → fallback_of t w e ≡ Some x → kind_of t e ≡ Cr → fixed_len t (w ++ e ∷ []) ≡ fixed_len t w
fixes_nothing t w e x o on falls kind =
    fixed_more t w e
    ∙ ap (λ c. if c then length w + 1 else fixed_len t w) (ap (λ k. commits_by_kind k (has e (forward t w))) kind ∙ falls_is_free t w e x o on falls)

-- the last way on behind such a step of a way that isn't sure, which falls back to the same
pub record LeadsDown (t : Shape) (w : List ℕ) (e x f : ℕ) : Type 0 where
  pub on : goes_on_to t (w ++ e ∷ []) f ≡ true
  pub up : e < f
  pub falls : fallback_of t (w ++ e ∷ []) f ≡ Some x
  pub unsure : is_sure t.kinds (f ∷ last_after t ((w ++ e ∷ []) ++ f ∷ [])) ≡ false

pub leads_down : (t : Shape) (w : List ℕ) (e x : ℕ) → IsOrderly t → goes_on_to t w e ≡ true → fallback_of t w e ≡ Some x → kind_of t e ≡ Cr → is_sure t.kinds (e ∷ last_after t (w ++ e ∷ [])) ≡ false
    → (f : ℕ) × LeadsDown t w e x f
leads_down t w e x o on falls kind unsure = by_next (greatest (next_steps t v)) refl
  where
    v : List ℕ
    v = w ++ e ∷ []

    rest : is_sure t.kinds (last_after t v) ≡ false
    rest = sym (ap (λ k. is_sure_by k (is_sure t.kinds (last_after t v))) kind) ∙ unsure

    down : (f : ℕ) → greatest (next_steps t v) ≡ Some f → LeadsDown t w e x f
    down f is =
        let most = greatest_is (next_steps t v) f is in
        let far = falls_to t w e x falls in
        let same = fixes_nothing t w e x o on falls kind in
        let long = length-append w (e ∷ []) in
        let up = goes_up t w e f o.rising most.0 in
        let back : FallsTo t v f x = record {
          up = below_later t w e far.keep x [] f o on far.within far.way far.up most.0;
          keep = far.keep;
          fixed = omega (arith, same, far.fixed);
          within = omega (arith, long, far.within);
          way = ap (λ u. goes_on_to t u x) (take_front far.keep w (e ∷ []) far.within) ∙ far.way;
          nearest = λ j d from to goes lt.
              ⊎_elim
              (λ less. far.nearest j d (omega (arith, same)) (omega arith) (sym (ap (λ u. goes_on_to t u d) (take_front j w (e ∷ []) (omega arith))) ∙ goes) (omega arith))
              (λ all. absurd (let le = most.1 d (sym (ap (λ u. goes_on_to t u d) (take_whole v j (omega (arith, long)))) ∙ goes) in omega arith))
              (cases_lt j (length w + 1));
        } in
        record {
          on = most.0;
          up = up;
          falls = falls_back t v f x back;
          unsure = sym (ap (is_sure t.kinds) (last_step t (length t.kinds) v f o.rising o.within is)) ∙ rest;
        }

    by_next : (g : Option ℕ) → greatest (next_steps t v) ≡ g → (f : ℕ) × LeadsDown t w e x f
    by_next None is = absurd (let f : true ≡ false = sym (ap (is_sure t.kinds) (last_after_none t v is)) ∙ rest in cc)
    by_next (Some f) is = (f, down f is)
