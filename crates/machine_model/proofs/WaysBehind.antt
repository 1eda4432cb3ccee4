-- After a step nothing is pending, and an undo leaves of what was pending all but the last.
use Rattle.std.proofs.Common.{◌≡◌, ⊎_elim, ℕ, zero, suc, ◌+◌, ◌-◌, ◌≤◌, ◌<◌, Bool, true, false, leb, List, [], ◌∷◌, ◌++◌, length, take, filter, flat_map, if◌then◌else◌, Option, Some, None, sym, refl, ap, subst, ◌∙◌, append_assoc, arith}
use Rattle.std.proofs.lemmas.Option.{none-some, same_Some}
use Rattle.std.proofs.lemmas.Bool.{and_from, cases_Bool, cases_lt, false≢true, le-leb}
use Rattle.std.proofs.lemmas.List.{length-take}
use Rattle.process_tree.specs.Blocks.{numbers_from}
use Rattle.process_tree.specs.Laws.{IsTreeShape, IsInWay}
use Rattle.process_tree.specs.Order.{Each, IsLaidOut, IsRising, has}
use Rattle.process_tree.specs.Play.{kept_prefixes, kept_for}
use Rattle.process_tree.specs.Recovery.{forward}
use Rattle.process_tree.specs.Shape.{Shape, branch_to, first_of, fixed_len, goes_on_to, is_whole, least, next_steps}
use Rattle.process_tree.specs.Termination.{IsWellFormed}
use Rattle.process_tree.proofs.Branches.{Each-among, has_cases, has_here}
use Rattle.process_tree.proofs.Classes.{owed_commits}
use Rattle.process_tree.proofs.Fixed.{fixed_more, fixed_le}
use Rattle.process_tree.proofs.InTurn.{goes_up, goes_within}
use Rattle.process_tree.proofs.Intervals.{Begins, begins_from, begins_to}
use Rattle.process_tree.proofs.Numbers.{has_right, least_is, least_some, numbers_has, to_flat}
use Rattle.process_tree.proofs.Onward.{branch_from, goes_along, onward_above}
use Rattle.process_tree.proofs.TreeLaws.{ends_are_whole, paths_lie_in_order, ways_are_intervals}
use Rattle.schedule_model.specs.Histories.{is_in}
use Rattle.schedule_model.proofs.Active.{is_in-filter}
use Rattle.machine_model.specs.Progress.{Progress, staying, staying_for, way_on}
use Rattle.machine_model.specs.ProcessState.{last_undone, step_done}
use Rattle.machine_model.proofs.WaysOn.{IsKeptPrefix, IsWayOn, way_on-is}

-- Lists.

length_push : (v : List ℕ) (b : ℕ) → length (v ++ b ∷ []) ≡ length v + 1
length_push [] b = refl
length_push (x ∷ v) b = let e = length_push v b in omega arith

take_all : (w : List ℕ) (k : ℕ) → length w ≤ k → take k w ≡ w
take_all [] zero le = refl
take_all [] (suc k) le = refl
take_all (x ∷ w) zero le = absurd (omega arith)
take_all (x ∷ w) (suc k) le = ap (λ u. x ∷ u) (take_all w k (omega arith))

take_take : (c n : ℕ) (w : List ℕ) → c ≤ n → take c (take n w) ≡ take c w
take_take zero zero w le = refl
take_take zero (suc n) [] le = refl
take_take zero (suc n) (x ∷ w) le = refl
take_take (suc c) zero w le = absurd (omega arith)
take_take (suc c) (suc n) [] le = refl
take_take (suc c) (suc n) (x ∷ w) le = ap (λ u. x ∷ u) (take_take c n w (omega arith))

record SplitAt (k : ℕ) (w : List ℕ) : Type 0 where
  here : ℕ
  rest : List ℕ
  is : w ≡ take k w ++ here ∷ rest

split_at : (k : ℕ) (w : List ℕ) → k < length w → SplitAt k w
split_at k [] lt = absurd (omega arith)
split_at zero (x ∷ w) lt = record { here = x; rest = w; is = refl }
split_at (suc k) (x ∷ w) lt = let s = split_at k w (omega arith) in record { here = s.here; rest = s.rest; is = ap (λ u. x ∷ u) s.is }

-- one behind others that are less is the greatest
below_last : (v : List ℕ) (b x : ℕ) → Each (λ y. y < b) v → has x (v ++ b ∷ []) ≡ true → x ≤ b
below_last [] b x low on = ⊎_elim (λ e. omega arith) (λ rest. absurd (let f = rest.1 in cc)) (has_cases x b [] on)
below_last (y ∷ v) b x low on = ⊎_elim (λ e. let lt : y < b = low.0 in omega arith) (λ rest. below_last v b x low.1 rest.1) (has_cases x y (v ++ b ∷ []) on)

begins_push : (u ys : List ℕ) (x : ℕ) → Begins (u ++ x ∷ []) (u ++ x ∷ ys)
begins_push [] ys x = (refl, tt)
begins_push (y ∷ u) ys x = (refl, begins_push u ys x)

begins_one : (u : List ℕ) (x y : ℕ) → Begins (u ++ x ∷ []) (u ++ y ∷ []) → x ≡ y
begins_one [] x y b = b.0
begins_one (z ∷ u) x y b = begins_one u x y b.1

-- a step behind v and b is below each later way that leaves v and b before
behind_is_least : (t : Shape) → IsTreeShape t → (v : List ℕ) (b d e k : ℕ) → goes_on_to t v b ≡ true → goes_on_to t (v ++ b ∷ []) d ≡ true
    → k < length (v ++ b ∷ []) → goes_on_to t (take k (v ++ b ∷ [])) e ≡ true → b < e → d ≤ e
behind_is_least t tree v b d e k on next short other later = ⊎_elim (λ lt. absurd (crossing (omega arith))) (λ le. le) (cases_lt e d)
  where
    laid : IsLaidOut (length t.kinds) t.paths
    laid = paths_lie_in_order t tree

    w : List ℕ
    w = v ++ b ∷ []

    s : SplitAt k w
    s = split_at k w short

    u : List ℕ
    u = take k w

    x : ℕ
    x = s.here

    branch_d : branch_to t d ≡ w
    branch_d = branch_from t w d laid.in_order laid.rising next

    branch_b : branch_to t b ≡ v
    branch_b = branch_from t v b laid.in_order laid.rising on

    branch_e : branch_to t e ≡ u
    branch_e = branch_from t u e laid.in_order laid.rising other

    b_in : IsInWay t u x b
    b_in = begins_to (u ++ x ∷ []) (branch_to t b ++ b ∷ []) (subst (Begins (u ++ x ∷ [])) (sym s.is ∙ ap (λ l. l ++ b ∷ []) (sym branch_b)) (begins_push u s.rest x))

    d_in : IsInWay t u x d
    d_in = begins_to (u ++ x ∷ []) (branch_to t d ++ d ∷ [])
        (subst (Begins (u ++ x ∷ [])) (sym (append_assoc u (x ∷ s.rest) (d ∷ [])) ∙ ap (λ l. l ++ d ∷ []) (sym s.is ∙ sym branch_d)) (begins_push u (s.rest ++ d ∷ []) x))

    low : Each (λ y. y < b) v
    low = let along = goes_along t v b on in onward_above v along.0 b (Each-among IsRising t.paths along.0 laid.rising along.1) along.2

    x_low : x ≤ b
    x_low = below_last v b x low (subst (λ l. has x l ≡ true) (sym s.is) (has_right x u (x ∷ s.rest) (has_here x x s.rest refl)))

    crossing : e ≤ d → ⊥
    crossing le =
        let e_in = ways_are_intervals t tree u x b e d (goes_within t (length t.kinds) w d laid.within next) b_in d_in (omega arith) le in
        let same = begins_one u x e (subst (Begins (u ++ x ∷ [])) (ap (λ l. l ++ e ∷ []) branch_e) (begins_from (u ++ x ∷ []) (branch_to t e ++ e ∷ []) e_in)) in
        absurd (omega (arith, x_low))

-- Ways on.

-- those of which the way on is the least
abbrev ways : Progress → List ℕ
ways s = filter (λ d. leb s.onward d) (flat_map (next_steps s.shape) (kept_prefixes s.shape s.net))

way_on-least : (s : Progress) → s.begun ≡ false → is_whole s.shape s.net ≡ false → way_on s ≡ least (ways s)
way_on-least s begun whole = ap (λ b. if b then None else (if is_whole s.shape s.net then None else least (ways s))) begun ∙ ap (λ b. if b then None else least (ways s)) whole

staying-begun : (s : Progress) → s.begun ≡ true → staying s ≡ fixed_len s.shape s.net
staying-begun s begun = ap (λ b. if b then fixed_len s.shape s.net else (if is_whole s.shape s.net then length s.net else staying_for s (way_on s))) begun

staying-on : (s : Progress) → s.begun ≡ false → (w : Bool) → is_whole s.shape s.net ≡ w → staying s ≡ (if w then length s.net else staying_for s (way_on s))
staying-on s begun w whole =
    ap (λ b. if b then fixed_len s.shape s.net else (if is_whole s.shape s.net then length s.net else staying_for s (way_on s))) begun
    ∙ ap (λ b. if b then length s.net else staying_for s (way_on s)) whole

-- what goes on from a kept beginning is one of them
in_ways : (s : Progress) (k e : ℕ) → fixed_len s.shape s.net ≤ k → k ≤ length s.net → goes_on_to s.shape (take k s.net) e ≡ true → s.onward ≤ e → is_in e (ways s) ≡ true
in_ways s k e low high goes bound =
    let f = fixed_len s.shape s.net in
    let all = flat_map (next_steps s.shape) (kept_prefixes s.shape s.net) in
    is_in-filter (λ d. leb s.onward d) e all
    ∙ and_from (is_in e all) (leb s.onward e)
    (to_flat (next_steps s.shape) (λ n. take n s.net) e k (numbers_from f (length s.net - f + 1)) (numbers_has k f (length s.net - f + 1) low (omega arith)) goes)
    (le-leb s.onward e bound)

never_none : (xs : List ℕ) (e : ℕ) → is_in e xs ≡ true → least xs ≡ None → ⊥
never_none [] e is none = false≢true is
never_none (x ∷ xs) e is none = let some = least_some x xs in none-some some.0 (sym none ∙ some.1)

kept_length : (t : Shape) (w v : List ℕ) (k : IsKeptPrefix t w v) → length v ≡ k.count
kept_length t w v k = let n = k.within in let l = ap length k.is in let m = length-take k.count w in omega arith

-- a step that goes on, at the bound or above, done
module _ (s : Progress) (d : ℕ) (tree : IsTreeShape s.shape) (well : IsWellFormed s.shape) (bound : s.onward ≤ d) (on : goes_on_to s.shape s.net d ≡ true)
    (owed : s.begun ≡ true → first_of (forward s.shape s.net) ≡ Some d) where
  first_has : (xs : List ℕ) → first_of xs ≡ Some d → has d xs ≡ true
  first_has [] is = absurd (none-some d is)
  first_has (x ∷ xs) is = has_here d x xs (sym (same_Some x d is))

  by_way : (f : ℕ) → goes_on_to s.shape (s.net ++ d ∷ []) f ≡ true → (o : Option ℕ) → way_on (step_done s d) ≡ o → least (ways (step_done s d)) ≡ o → length (s.net ++ d ∷ []) ≤ staying_for (step_done s d) o
  by_way f next None is first =
      let up = goes_up s.shape s.net d f (paths_lie_in_order s.shape tree).rising next in
      absurd (never_none (ways (step_done s d)) f
      (in_ways (step_done s d) (length (s.net ++ d ∷ [])) f (fixed_le s.shape (s.net ++ d ∷ [])) (omega arith) (ap (λ u. goes_on_to s.shape u f) (take_all (s.net ++ d ∷ []) (length (s.net ++ d ∷ [])) (omega arith)) ∙ next) (omega arith)) first)
  by_way f next (Some e) is first = ⊎_elim (λ short. absurd (left_before short)) (λ long. let n = way.from.within in let k = kept in omega arith) (cases_lt way.from.count (length (s.net ++ d ∷ [])))
    where
      way : IsWayOn (step_done s d) e
      way = way_on-is (step_done s d) e is

      kept : length (kept_for s.shape (s.net ++ d ∷ []) e) ≡ way.from.count
      kept = kept_length s.shape (s.net ++ d ∷ []) (kept_for s.shape (s.net ++ d ∷ []) e) way.from

      least_one : e ≤ f
      least_one =
          let up = goes_up s.shape s.net d f (paths_lie_in_order s.shape tree).rising next in
          (least_is (ways (step_done s d)) e first).1 f
          (in_ways (step_done s d) (length (s.net ++ d ∷ [])) f (fixed_le s.shape (s.net ++ d ∷ [])) (omega arith) (ap (λ u. goes_on_to s.shape u f) (take_all (s.net ++ d ∷ []) (length (s.net ++ d ∷ [])) (omega arith)) ∙ next) (omega arith))

      left_before : way.from.count < length (s.net ++ d ∷ []) → ⊥
      left_before short =
          let laid = paths_lie_in_order s.shape tree in
          let goes = sym (ap (λ u. goes_on_to s.shape u e) way.from.is) ∙ way.on in
          let above = way.bound in
          let other = behind_is_least s.shape tree s.net d f e way.from.count on next short goes (omega arith) in
          let one = least_one in
          let same : f ≡ e = omega arith in
          let long = ap length (sym (branch_from s.shape (s.net ++ d ∷ []) f laid.in_order laid.rising next) ∙ (ap (branch_to s.shape) same ∙ branch_from s.shape (take way.from.count (s.net ++ d ∷ [])) e laid.in_order laid.rising goes)) in
          let l = length-take way.from.count (s.net ++ d ∷ []) in
          absurd (omega arith)

  pub all_stay : length (s.net ++ d ∷ []) ≤ staying (step_done s d)
  all_stay = ⊎_elim begun not_begun (cases_Bool s.begun)
    where
      begun : s.begun ≡ true → length (s.net ++ d ∷ []) ≤ staying (step_done s d)
      begun yes' =
          let commits = owed_commits s.shape (paths_lie_in_order s.shape tree) well s.net d (first_has (forward s.shape s.net) (owed yes')) in
          let fixed = fixed_more s.shape s.net d ∙ ap (λ c. if c then length s.net + 1 else fixed_len s.shape s.net) commits in
          let stays = staying-begun (step_done s d) yes' in
          let l = length_push s.net d in
          omega arith

      not_begun : s.begun ≡ false → length (s.net ++ d ∷ []) ≤ staying (step_done s d)
      not_begun no' = ⊎_elim (λ whole. let e = staying-on (step_done s d) no' true whole in omega arith) (λ more. by_next (next_steps s.shape (s.net ++ d ∷ [])) refl more) (cases_Bool (is_whole s.shape (s.net ++ d ∷ [])))
        where
          by_next : (xs : List ℕ) → next_steps s.shape (s.net ++ d ∷ []) ≡ xs → is_whole s.shape (s.net ++ d ∷ []) ≡ false → length (s.net ++ d ∷ []) ≤ staying (step_done s d)
          by_next [] is more = absurd (false≢true (sym more ∙ ends_are_whole s.shape tree s.net d on is))
          by_next (x ∷ xs) is more =
              let next : goes_on_to s.shape (s.net ++ d ∷ []) x ≡ true = ap (has x) is ∙ has_here x x xs refl in
              let stays = staying-on (step_done s d) no' false more in
              let b = by_way x next (way_on (step_done s d)) refl (sym (way_on-least (step_done s d) no' more)) in
              omega arith

-- the last step undone, which isn't fixed
module _ (s : Progress) (tree : (v : List ℕ) (e : ℕ) → goes_on_to s.shape v e ≡ true → IsTreeShape s.shape) (pending : staying s < length s.net) (same : fixed_len s.shape (take (length s.net - 1) s.net) ≡ fixed_len s.shape s.net) where
  shorter : length (take (length s.net - 1) s.net) ≡ length s.net - 1
  shorter = let l = length-take (length s.net - 1) s.net in omega arith

  by_ways : (o q : Option ℕ) → way_on s ≡ o → least (ways s) ≡ o → way_on (last_undone s) ≡ q → least (ways (last_undone s)) ≡ q → staying_for s o < length s.net → staying_for s o ≡ staying_for (last_undone s) q
  by_ways None None is first is' first' less = sym same
  by_ways None (Some e) is first is' first' less =
      let other = way_on-is (last_undone s) e is' in
      let low = other.from.fixed in
      let high = other.from.within in
      let l = shorter in
      let goes = ap (λ u. goes_on_to s.shape u e) (sym (take_take other.from.count (length s.net - 1) s.net (omega arith)) ∙ sym other.from.is) ∙ other.on in
      absurd (never_none (ways s) e (in_ways s other.from.count e (omega arith) (omega arith) goes other.bound) first)
  by_ways (Some d) q is first is' first' less = by_other q is' first'
    where
      way : IsWayOn s d
      way = way_on-is s d is

      kept : length (kept_for s.shape s.net d) ≡ way.from.count
      kept = kept_length s.shape s.net (kept_for s.shape s.net d) way.from

      in_rest : is_in d (ways (last_undone s)) ≡ true
      in_rest =
          let low = way.from.fixed in
          let l = shorter in
          let k = kept in
          in_ways (last_undone s) way.from.count d (omega arith) (omega arith)
          (ap (λ u. goes_on_to s.shape u d) (take_take way.from.count (length s.net - 1) s.net (omega arith) ∙ sym way.from.is) ∙ way.on) way.bound

      by_other : (q : Option ℕ) → way_on (last_undone s) ≡ q → least (ways (last_undone s)) ≡ q → length (kept_for s.shape s.net d) ≡ staying_for (last_undone s) q
      by_other None is' first' = absurd (never_none (ways (last_undone s)) d in_rest first')
      by_other (Some e) is' first' =
          let laid = paths_lie_in_order s.shape (tree (kept_for s.shape s.net d) d way.on) in
          let other = way_on-is (last_undone s) e is' in
          let low = other.from.fixed in
          let high = other.from.within in
          let l = shorter in
          let goes = ap (λ u. goes_on_to s.shape u e) (sym (take_take other.from.count (length s.net - 1) s.net (omega arith)) ∙ sym other.from.is) ∙ other.on in
          let one = (least_is (ways s) d first).1 e (in_ways s other.from.count e (omega arith) (omega arith) goes other.bound) in
          let two = (least_is (ways (last_undone s)) e first').1 d in_rest in
          let equal : d ≡ e = omega arith in
          let branch = sym (branch_from s.shape (kept_for s.shape s.net d) d laid.in_order laid.rising way.on)
          ∙ (ap (branch_to s.shape) equal ∙ branch_from s.shape (kept_for s.shape (take (length s.net - 1) s.net) e) e laid.in_order laid.rising other.on) in
          ap length branch

  pub still_stays : staying s ≤ staying (last_undone s)
  still_stays = ⊎_elim begun not_begun (cases_Bool s.begun)
    where
      begun : s.begun ≡ true → staying s ≤ staying (last_undone s)
      begun yes' = let a = staying-begun s yes' in let b = staying-begun (last_undone s) yes' in omega arith

      by_whole : (w v : Bool) → s.begun ≡ false → is_whole s.shape s.net ≡ w → is_whole s.shape (take (length s.net - 1) s.net) ≡ v → staying s ≤ staying (last_undone s)
      by_whole true v no' whole rest = let a = staying-on s no' true whole in absurd (omega arith)
      by_whole false true no' whole rest = let b = staying-on (last_undone s) no' true rest in let l = shorter in omega arith
      by_whole false false no' whole rest =
          let a = staying-on s no' false whole in
          let b = staying-on (last_undone s) no' false rest in
          let c = by_ways (way_on s) (way_on (last_undone s)) refl (sym (way_on-least s no' whole)) refl (sym (way_on-least (last_undone s) no' rest)) (omega arith) in
          omega arith

      not_begun : s.begun ≡ false → staying s ≤ staying (last_undone s)
      not_begun no' = by_whole (is_whole s.shape s.net) (is_whole s.shape (take (length s.net - 1) s.net)) no' refl refl

  -- as long as it hasn't begun to complete, exactly as many stay
  pub as_many_stay : s.begun ≡ false → is_whole s.shape (take (length s.net - 1) s.net) ≡ false → staying (last_undone s) ≡ staying s
  as_many_stay no' rest = by_whole (is_whole s.shape s.net) refl
    where
      by_whole : (w : Bool) → is_whole s.shape s.net ≡ w → staying (last_undone s) ≡ staying s
      by_whole true whole = let a = staying-on s no' true whole in absurd (omega arith)
      by_whole false whole =
          let a = staying-on s no' false whole in
          staying-on (last_undone s) no' false rest
          ∙ (sym (by_ways (way_on s) (way_on (last_undone s)) refl (sym (way_on-least s no' whole)) refl (sym (way_on-least (last_undone s) no' rest)) (omega arith)) ∙ sym a)
