-- The way on behind a step that is done, undone or refused.
use Rattle.std.proofs.Common.{◌≡◌, ⊎_elim, subst, ℕ, ◌+◌, ◌-◌, ◌<◌, ◌≤◌, true, false, List, [], ◌∷◌, ◌++◌, length, take, filter, flat_map, Some, None, refl, sym, ap, ◌∙◌, arith, nat_le, nat_lt, append_assoc, if◌then◌else◌}
use Rattle.std.proofs.lemmas.Bool.{leb-true, le-leb, cases_lt, eq-eqb}
use Rattle.process_tree.specs.Blocks.{numbers_from}
use Rattle.process_tree.specs.Order.{Each, IsLaidOut, IsRising, has}
use Rattle.process_tree.specs.Laws.{IsTreeShape, IsInWay}
use Rattle.process_tree.specs.Shape.{commits_after, Shape, next_steps, goes_on_to, branch_to, fixed_len, least}
use Rattle.process_tree.specs.Play.{kept_prefixes, fallback_of}
use Rattle.process_tree.proofs.Branches.{has_here}
use Rattle.process_tree.proofs.Numbers.{numbers_has, numbers_between, in_flat, to_flat, in_filter as in_later, to_filter as to_later, has_right, least_is, least_same}
use Rattle.process_tree.proofs.Reached.{least_of}
use Rattle.process_tree.proofs.Fixed.{fixed_more, fixed_le}
use Rattle.process_tree.proofs.Intervals.{Begins, begins_from, begins_to}
use Rattle.process_tree.proofs.Onward.{onward, onward_both, onward_above, goes_along, branch_from}
use Rattle.process_tree.proofs.InTurn.{goes_up, goes_within}
use Rattle.process_tree.proofs.TreeLaws.{paths_lie_in_order, ways_are_intervals}
use Rattle.process_tree.proofs.Branches.{Each-among}
use Rattle.instance_state.specs.Rows.{way_from}
use Rattle.instance_state.proofs.Lists.{in_filter, to_filter, least_none, none_least, SplitAt, split_at, take_all, take_push, length_push, below_last}

-- d is not below this bound, and goes on from a beginning of w with all its commit points
pub record IsWay (t : Shape) (w : List ℕ) (bound d : ℕ) : Type 0 where
  pub kept : ℕ
  pub fixed : fixed_len t w ≤ kept
  pub within : kept ≤ length w
  pub goes : goes_on_to t (take kept w) d ≡ true
  pub above : bound ≤ d

-- the steps of which the way on is the least
abbrev pub ways : Shape → List ℕ → ℕ → List ℕ
ways t w bound = filter (λ d. nat_le bound d) (flat_map (next_steps t) (kept_prefixes t w))

pub is_way : (t : Shape) (w : List ℕ) (bound d : ℕ) → has d (ways t w bound) ≡ true → IsWay t w bound d
is_way t w bound d on =
    let f = fixed_len t w in
    let passed = in_filter (λ e. nat_le bound e) d (flat_map (next_steps t) (kept_prefixes t w)) on in
    let prefix = in_flat (next_steps t) (λ k. take k w) d (numbers_from f (length w - f + 1)) passed.0 in
    let between = numbers_between prefix.0 f (length w - f + 1) prefix.1 in
    let le = fixed_le t w in
    record { kept = prefix.0; fixed = between.0; within = omega arith; goes = prefix.2; above = leb-true bound d passed.1 }

pub to_way : (t : Shape) (w : List ℕ) (bound d : ℕ) → IsWay t w bound d → has d (ways t w bound) ≡ true
to_way t w bound d way =
    let f = fixed_len t w in
    let le = way.fixed in
    let ge = way.within in
    to_filter (λ e. nat_le bound e) d (flat_map (next_steps t) (kept_prefixes t w))
    (to_flat (next_steps t) (λ k. take k w) d way.kept (numbers_from f (length w - f + 1)) (numbers_has way.kept f (length w - f + 1) way.fixed (omega arith)) way.goes)
    (le-leb bound d way.above)

-- the way on is a way, and no greater than another
pub way_is : (t : Shape) (w : List ℕ) (bound d : ℕ) → way_from t w bound ≡ Some d → IsWay t w bound d × ((e : ℕ) → IsWay t w bound e → d ≤ e)
way_is t w bound d is =
    let l = least_is (ways t w bound) d is in
    (is_way t w bound d l.0, λ e way. l.1 e (to_way t w bound e way))

pub way_of : (t : Shape) (w : List ℕ) (bound d : ℕ) → IsWay t w bound d → ((e : ℕ) → IsWay t w bound e → d ≤ e) → way_from t w bound ≡ Some d
way_of t w bound d way low = least_of (ways t w bound) d (to_way t w bound d way) (λ e on. low e (is_way t w bound e on))

pub no_way : (t : Shape) (w : List ℕ) (bound : ℕ) → ((e : ℕ) → IsWay t w bound e → ⊥) → way_from t w bound ≡ None
no_way t w bound none = least_none (ways t w bound) (λ e on. none e (is_way t w bound e on))

pub none_way : (t : Shape) (w : List ℕ) (bound : ℕ) → way_from t w bound ≡ None → (e : ℕ) → IsWay t w bound e → ⊥
none_way t w bound is e way = let f = ap (has e) (none_least (ways t w bound) is) in let on = to_way t w bound e way in cc

-- two lists with the same ways have the same way on
pub same_way : (t : Shape) (w v : List ℕ) (bound bar : ℕ) → ((e : ℕ) → IsWay t w bound e → IsWay t v bar e) → ((e : ℕ) → IsWay t v bar e → IsWay t w bound e) → way_from t w bound ≡ way_from t v bar
same_way t w v bound bar to back =
    least_same (ways t w bound) (ways t v bar)
    (λ e on. to_way t v bar e (to e (is_way t w bound e on)))
    (λ e on. to_way t w bound e (back e (is_way t v bar e on)))

-- the way on from the bound behind b is the fallback of b
pub fallback_is_way : (t : Shape) (w : List ℕ) (b : ℕ) → way_from t w (b + 1) ≡ fallback_of t w b
fallback_is_way t w b =
    let all = flat_map (next_steps t) (kept_prefixes t w) in
    least_same (ways t w (b + 1)) (filter (λ d. nat_lt b d) all)
    (λ e on. let p = in_filter (λ d. nat_le (b + 1) d) e all on in let le = leb-true (b + 1) e p.1 in to_later b e all p.0 (omega arith))
    (λ e on. let p = in_later b e all on in let lt = p.1 in to_filter (λ d. nat_le (b + 1) d) e all p.0 (le-leb (b + 1) e (omega arith)))

-- Behind a step that is done.

-- what goes on from a list goes through each of its steps
pub onward_first : (u rest p : List ℕ) (x d : ℕ) → onward (u ++ x ∷ rest) p ≡ Some d → onward u p ≡ Some x
onward_first [] rest [] x d e = absurd (cc)
onward_first [] rest (y ∷ p) x d e = ap Some (sym (onward_both x y d rest p e).0)
onward_first (z ∷ u) rest [] x d e = absurd (cc)
onward_first (z ∷ u) rest (y ∷ p) x d e =
    let both = onward_both z y d (u ++ x ∷ rest) p e in
    ap (λ c. if c then onward u p else None) (eq-eqb z y both.0) ∙ onward_first u rest p x d both.1

pub begins_push : (u ys : List ℕ) (x : ℕ) → Begins (u ++ x ∷ []) (u ++ x ∷ ys)
begins_push [] ys x = (refl, tt)
begins_push (y ∷ u) ys x = (refl, begins_push u ys x)

pub begins_one : (u : List ℕ) (x y : ℕ) → Begins (u ++ x ∷ []) (u ++ y ∷ []) → x ≡ y
begins_one [] x y b = b.0
begins_one (z ∷ u) x y b = begins_one u x y b.1

-- a step behind v and b is below each later way that leaves v and b before
pub behind_is_least : (t : Shape) → IsTreeShape t → (v : List ℕ) (b d e k : ℕ) → goes_on_to t v b ≡ true → goes_on_to t (v ++ b ∷ []) d ≡ true
    → k < length (v ++ b ∷ []) → goes_on_to t (take k (v ++ b ∷ [])) e ≡ true → b < e → d ≤ e
behind_is_least t tree v b d e k on next short other later =
    ⊎_elim (λ lt. absurd (crossing (omega arith))) (λ le. le) (cases_lt e d)
  where
    laid : IsLaidOut (length t.kinds) t.paths
    laid = paths_lie_in_order t tree

    w : List ℕ
    w = v ++ b ∷ []

    s : SplitAt k w
    s = split_at k w short

    u : List ℕ
    u = take k w

    x : ℕ
    x = s.here

    branch_d : branch_to t d ≡ w
    branch_d = branch_from t w d laid.in_order laid.rising next

    branch_b : branch_to t b ≡ v
    branch_b = branch_from t v b laid.in_order laid.rising on

    branch_e : branch_to t e ≡ u
    branch_e = branch_from t u e laid.in_order laid.rising other

    b_in : IsInWay t u x b
    b_in = begins_to (u ++ x ∷ []) (branch_to t b ++ b ∷ [])
        (subst (Begins (u ++ x ∷ [])) (sym s.is ∙ ap (λ l. l ++ b ∷ []) (sym branch_b)) (begins_push u s.rest x))

    d_in : IsInWay t u x d
    d_in = begins_to (u ++ x ∷ []) (branch_to t d ++ d ∷ [])
        (subst (Begins (u ++ x ∷ [])) (sym (append_assoc u (x ∷ s.rest) (d ∷ [])) ∙ ap (λ l. l ++ d ∷ []) (sym s.is ∙ sym branch_d)) (begins_push u (s.rest ++ d ∷ []) x))

    low : Each (λ y. y < b) v
    low = let along = goes_along t v b on in onward_above v along.0 b (Each-among IsRising t.paths along.0 laid.rising along.1) along.2

    x_low : x ≤ b
    x_low = below_last v b x low (subst (λ l. has x l ≡ true) (sym s.is) (has_right x u (x ∷ s.rest) (has_here x x s.rest refl)))

    crossing : e ≤ d → ⊥
    crossing le =
        let e_in = ways_are_intervals t tree u x b e d (goes_within t (length t.kinds) w d laid.within next) b_in d_in (omega arith) le in
        let same = begins_one u x e (subst (Begins (u ++ x ∷ [])) (ap (λ l. l ++ e ∷ []) branch_e) (begins_from (u ++ x ∷ []) (branch_to t e ++ e ∷ []) e_in)) in
        absurd (omega (arith, x_low))

-- where a step stands behind b, the least one is the way on
pub way_behind : (t : Shape) → IsTreeShape t → (v : List ℕ) (b d : ℕ) → goes_on_to t v b ≡ true → least (next_steps t (v ++ b ∷ [])) ≡ Some d
    → way_from t (v ++ b ∷ []) (b + 1) ≡ Some d
way_behind t tree v b d on is =
    let laid = paths_lie_in_order t tree in
    let w = v ++ b ∷ [] in
    let l = least_is (next_steps t w) d is in
    way_of t w (b + 1) d
    (record {
      kept = length w;
      fixed = fixed_le t w;
      within = omega arith;
      goes = ap (λ u. goes_on_to t u d) (take_all w (length w) (omega arith)) ∙ l.0;
      above = let up = goes_up t v b d laid.rising l.0 in omega arith;
    })
    (λ e way. ⊎_elim
    (λ lt. let above = way.above in behind_is_least t tree v b d e way.kept on l.0 lt way.goes (omega arith))
    (λ le. l.1 e (sym (ap (λ u. goes_on_to t u e) (take_all w way.kept le)) ∙ way.goes))
    (cases_lt way.kept (length w)))

-- where nothing stands behind a commit point, there is no way on
pub no_way_behind : (t : Shape) (v : List ℕ) (b : ℕ) → next_steps t (v ++ b ∷ []) ≡ [] → commits_after t v b ≡ true
    → way_from t (v ++ b ∷ []) (b + 1) ≡ None
no_way_behind t v b none commit =
    let w = v ++ b ∷ [] in
    let all : fixed_len t w ≡ length v + 1 = fixed_more t v b ∙ ap (λ c. if c then length v + 1 else fixed_len t v) commit in
    no_way t w (b + 1) (λ e way.
    let long = way.fixed in
    let f = sym (ap (λ u. goes_on_to t u e) (take_all w way.kept (let l = length_push v b in omega arith))) ∙ way.goes in
    let g = ap (has e) none in
    cc)

-- behind another one it is the fallback of b
pub way_past : (t : Shape) (v : List ℕ) (b : ℕ) → next_steps t (v ++ b ∷ []) ≡ [] → commits_after t v b ≡ false
    → way_from t (v ++ b ∷ []) (b + 1) ≡ way_from t v (b + 1)
way_past t v b none stays =
    let w = v ++ b ∷ [] in
    let same : fixed_len t w ≡ fixed_len t v = fixed_more t v b ∙ ap (λ c. if c then length v + 1 else fixed_len t v) stays in
    let more = length_push v b in
    same_way t w v (b + 1) (b + 1)
    (λ e way. ⊎_elim
    (λ lt. let low = way.fixed in record {
      kept = way.kept;
      fixed = omega arith;
      within = omega arith;
      goes = sym (ap (λ u. goes_on_to t u e) (take_push v b way.kept (omega arith))) ∙ way.goes;
      above = way.above;
    })
    (λ le. absurd (let f = sym (ap (λ u. goes_on_to t u e) (take_all w way.kept le)) ∙ way.goes in let g = ap (has e) none in cc))
    (cases_lt way.kept (length w)))
    (λ e way. let low = way.fixed in let high = way.within in record {
      kept = way.kept;
      fixed = omega arith;
      within = omega arith;
      goes = ap (λ u. goes_on_to t u e) (take_push v b way.kept way.within) ∙ way.goes;
      above = way.above;
    })

-- Behind an undo.

-- what is undone stands behind the last commit point; a way that leaves before it stays
pub way_stays : (t : Shape) (v : List ℕ) (b bound e : ℕ) → fixed_len t (v ++ b ∷ []) ≡ fixed_len t v → IsWay t v bound e → IsWay t (v ++ b ∷ []) bound e
way_stays t v b bound e same way = let low = way.fixed in let high = way.within in let more = length_push v b in record {
  kept = way.kept;
  fixed = omega arith;
  within = omega arith;
  goes = ap (λ u. goes_on_to t u e) (take_push v b way.kept way.within) ∙ way.goes;
  above = way.above;
}

pub way_leaves : (t : Shape) (v : List ℕ) (b bound e : ℕ) → fixed_len t (v ++ b ∷ []) ≡ fixed_len t v → (way : IsWay t (v ++ b ∷ []) bound e) → way.kept ≤ length v → IsWay t v bound e
way_leaves t v b bound e same way short = let low = way.fixed in record {
  kept = way.kept;
  fixed = omega arith;
  within = short;
  goes = sym (ap (λ u. goes_on_to t u e) (take_push v b way.kept short)) ∙ way.goes;
  above = way.above;
}
