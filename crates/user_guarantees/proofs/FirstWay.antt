-- Where a process has done a beginning of its first whole path and nothing else, its way on is the next step of that path: of
-- two paths that part the first is below the second from there on, so no other step that goes on is less.
use Rattle.std.proofs.Common.{◌≡◌, inl, inr, ℕ, ◌+◌, ◌-◌, ◌≤◌, ◌<◌, Bool, true, false, if◌then◌else◌, leb, List, [], ◌∷◌, ◌++◌, length, take, drop, filter, flat_map, Some, None, sym, refl, ap, subst, ◌∙◌, append_assoc, append-nil, arith}
use Rattle.std.proofs.lemmas.Bool.{and_parts, and_from, eq-eqb, false≢true, le-leb, leb-true}
use Rattle.std.proofs.lemmas.Option.{none-some, same_Some}
use Rattle.std.proofs.lemmas.List.{take-append-drop}
use Rattle.process_tree.specs.Blocks.{numbers_from}
use Rattle.process_tree.specs.Order.{AreInOrder, Each, IsLaidOut, IsRising, PartsBelow, has}
use Rattle.process_tree.specs.Recovery.{forward}
use Rattle.process_tree.specs.Play.{kept_for, kept_prefixes}
use Rattle.process_tree.specs.Shape.{Shape, first_of, fixed_len, goes_on_to, is_whole, last_of, least, next_steps}
use Rattle.process_tree.proofs.Branches.{Among, Each-among}
use Rattle.process_tree.proofs.Fixed.{fixed_le, take_whole}
use Rattle.process_tree.proofs.Numbers.{in_flat, least_is, least_some, numbers_has, to_flat}
use Rattle.process_tree.proofs.Onward.{branch_from, goes_along, goes_on, onward, onward_above, onward_both}
use Rattle.process_tree.proofs.Wholes.{among_whole, whole_ends}
use Rattle.schedule_model.specs.Histories.{is_in}
use Rattle.schedule_model.proofs.Active.{is_in-filter}
use Rattle.machine_model.specs.declared.kept.Work.TheVariants.{Forward, End}
use Rattle.machine_model.specs.Progress.{Progress, above, next_task, pending_steps, staying, staying_for, step_or_end, undo_or, way_on}
use Rattle.machine_model.proofs.OwnEvents.{above-append}
use Rattle.machine_model.proofs.WaysOn.{drop_past, way_on-is}

-- a path goes on from its beginning with what follows
onward_front : (v z : List ℕ) → onward v (v ++ z) ≡ first_of z
onward_front [] z = refl
onward_front (x ∷ v) z = ap (λ t. if t then onward v (v ++ z) else None) (eq-eqb x x refl) ∙ onward_front v z

-- a path that is below another is below the step with which that one goes on, once both have gone this way
parts_there : (v z q : List ℕ) (e : ℕ) → PartsBelow (v ++ z) q → onward v q ≡ Some e → (rest : List ℕ) × PartsBelow z (e ∷ rest)
parts_there [] z [] e below on = absurd (none-some e on)
parts_there [] z (y ∷ q) e below on = (q, subst (λ x. PartsBelow z (x ∷ q)) (same_Some y e on) below)
parts_there (x ∷ v) z [] e below on = absurd (none-some e on)
parts_there (x ∷ v) z (y ∷ q) e (inl both) on = parts_there v z q e both.1 (onward_both x y e v q on).1
parts_there (x ∷ v) z (y ∷ q) e (inr less) on = let same = (onward_both x y e v q on).0 in let low = less.0 in absurd (omega arith)

last_below : (u : List ℕ) (d e : ℕ) (r : List ℕ) → Each (λ z. z < e) (u ++ d ∷ r) → d < e
last_below [] d e r each = each.0
last_below (x ∷ u) d e r each = last_below u d e r each.1

-- the least of a list
least_of : (xs : List ℕ) (d : ℕ) → has d xs ≡ true → ((e : ℕ) → has e xs ≡ true → d ≤ e) → least xs ≡ Some d
least_of [] d on low = absurd (false≢true on)
least_of (x ∷ xs) d on low =
    let some = least_some x xs in
    let is = least_is (x ∷ xs) some.0 some.1 in
    let a = low some.0 is.0 in
    let b = is.1 d on in
    some.1 ∙ ap Some (omega arith)

module _ (t : Shape) (p : List ℕ) (ps : List (List ℕ)) (paths : t.paths ≡ p ∷ ps) (laid : IsLaidOut (length t.kinds) t.paths)
    (s : Progress) (shape : s.shape ≡ t) (begun : s.begun ≡ false) (bound : s.onward ≡ above s.net) where
  listed : Among p t.paths
  listed = subst (Among p) (sym paths) (inl refl)

  -- all of the path is done
  at_its_end : s.net ≡ p → next_task s ≡ record { work = End; step = 0 }
  at_its_end all = ap (λ o. undo_or (step_or_end (if s.begun then first_of (forward s.shape s.net) else way_on s)) o) (ap last_of pending) ∙ ap step_or_end (ap (λ b. if b then first_of (forward s.shape s.net) else way_on s) begun ∙ no_way)
    where
      whole : is_whole s.shape s.net ≡ true
      whole = ap (λ x. is_whole x s.net) shape ∙ (ap (is_whole t) all ∙ among_whole p t.paths (subst (Among p) (sym paths) (inl refl)))

      no_way : way_on s ≡ None
      no_way = ap (λ b. if b then None else (if is_whole s.shape s.net then None else least (filter (λ d. leb s.onward d) (flat_map (next_steps s.shape) (kept_prefixes s.shape s.net))))) begun
          ∙ ap (λ b. if b then None else least (filter (λ d. leb s.onward d) (flat_map (next_steps s.shape) (kept_prefixes s.shape s.net)))) whole

      stays : staying s ≡ length s.net
      stays = ap (λ b. if b then fixed_len s.shape s.net else (if is_whole s.shape s.net then length s.net else staying_for s (way_on s))) begun
          ∙ ap (λ b. if b then length s.net else staying_for s (way_on s)) whole

      pending : pending_steps s ≡ []
      pending = drop_past (staying s) s.net (let l = stays in omega arith)

  module _ (d : ℕ) (r : List ℕ) (rest : s.net ++ d ∷ r ≡ p) where
    on : goes_on_to t s.net d ≡ true
    on = goes_on t s.net d p listed (ap (onward s.net) (sym rest) ∙ onward_front s.net (d ∷ r))

    -- what stands in the net is below the bound
    below_bound : (k a : ℕ) (u : List ℕ) → drop k s.net ≡ a ∷ u → a < s.onward
    below_bound k a u is =
        let split = ap above (sym (take-append-drop k s.net) ∙ ap (λ x. take k s.net ++ x) is) in
        let parts = above-append (take k s.net) (a ∷ u) in
        let same = bound in
        omega arith

    -- no other step that goes on from a beginning of the net is at the bound and less
    first_by : (k e : ℕ) (u : List ℕ) → drop k s.net ≡ u → s.onward ≤ e → onward (take k s.net) p ≡ Some e → d ≤ e
    first_by k e u is low goes = by_rest u is (sym (ap (onward (take k s.net)) along ∙ onward_front (take k s.net) (u ++ d ∷ r)) ∙ goes)
      where
        along : p ≡ take k s.net ++ (u ++ d ∷ r)
        along = sym rest ∙ (ap (λ x. x ++ d ∷ r) (sym (take-append-drop k s.net) ∙ ap (λ x. take k s.net ++ x) is) ∙ append_assoc (take k s.net) u (d ∷ r))

        by_rest : (u : List ℕ) → drop k s.net ≡ u → first_of (u ++ d ∷ r) ≡ Some e → d ≤ e
        by_rest [] at same = let e' = same_Some d e same in omega arith
        by_rest (a ∷ u') at same = let e' = same_Some a e same in let l = below_bound k a u' at in absurd (omega arith)

    later_by : (k e : ℕ) (u q : List ℕ) → drop k s.net ≡ u → s.onward ≤ e → PartsBelow p q → onward (take k s.net) q ≡ Some e → d ≤ e
    later_by k e u q is low below goes = by_rest u is (parts_there (take k s.net) (u ++ d ∷ r) q e (subst (λ x. PartsBelow x q) along below) goes)
      where
        along : p ≡ take k s.net ++ (u ++ d ∷ r)
        along = sym rest ∙ (ap (λ x. x ++ d ∷ r) (sym (take-append-drop k s.net) ∙ ap (λ x. take k s.net ++ x) is) ∙ append_assoc (take k s.net) u (d ∷ r))

        by_rest : (u : List ℕ) → drop k s.net ≡ u → (rest' : List ℕ) × PartsBelow (u ++ d ∷ r) (e ∷ rest') → d ≤ e
        by_rest [] at (q', inl both) = let same = both.0 in omega arith
        by_rest [] at (q', inr less) = let l = less.0 in omega arith
        by_rest (a ∷ u') at (q', inl both) = let same = both.0 in let l = below_bound k a u' at in absurd (omega arith)
        by_rest (a ∷ u') at (q', inr less) = let l = last_below (a ∷ u') d e r less in omega arith

    no_less : (e : ℕ) → has e (filter (λ x. leb s.onward x) (flat_map (next_steps t) (kept_prefixes t s.net))) ≡ true → d ≤ e
    no_less e is =
        let parts = and_parts (is_in e (flat_map (next_steps t) (kept_prefixes t s.net))) (leb s.onward e) (sym (is_in-filter (λ x. leb s.onward x) e (flat_map (next_steps t) (kept_prefixes t s.net))) ∙ is) in
        let prefix = in_flat (next_steps t) (λ k. take k s.net) e (numbers_from (fixed_len t s.net) (length s.net - fixed_len t s.net + 1)) parts.0 in
        let along = goes_along t (take prefix.0 s.net) e prefix.2 in
        by_path prefix.0 (leb-true s.onward e parts.1) along.0 (subst (Among along.0) paths along.1) along.2
      where
        by_path : (k : ℕ) → s.onward ≤ e → (q : List ℕ) → Among q (p ∷ ps) → onward (take k s.net) q ≡ Some e → d ≤ e
        by_path k low q (inl same) goes = first_by k e (drop k s.net) refl low (ap (onward (take k s.net)) (sym same) ∙ goes)
        by_path k low q (inr later) goes = later_by k e (drop k s.net) q refl low (Each-among (PartsBelow p) ps q (subst AreInOrder paths laid.in_order).0 later) goes

    above_net : (e : ℕ) → Each (λ x. x < e) s.net → above s.net ≤ e
    above_net e each = by_list s.net each
      where
        by_list : (xs : List ℕ) → Each (λ x. x < e) xs → above xs ≤ e
        by_list [] each' = omega arith
        by_list (x ∷ xs) each' = let l = each'.0 in let m = by_list xs each'.1 in omega arith

    among_ways : has d (filter (λ x. leb s.onward x) (flat_map (next_steps t) (kept_prefixes t s.net))) ≡ true
    among_ways =
        let few = fixed_le t s.net in
        let up = above_net d (onward_above s.net p d (Each-among IsRising t.paths p laid.rising listed) (ap (onward s.net) (sym rest) ∙ onward_front s.net (d ∷ r))) in
        let same = bound in
        is_in-filter (λ x. leb s.onward x) d (flat_map (next_steps t) (kept_prefixes t s.net))
        ∙ and_from (is_in d (flat_map (next_steps t) (kept_prefixes t s.net))) (leb s.onward d)
        (to_flat (next_steps t) (λ k. take k s.net) d (length s.net) (numbers_from (fixed_len t s.net) (length s.net - fixed_len t s.net + 1))
        (numbers_has (length s.net) (fixed_len t s.net) (length s.net - fixed_len t s.net + 1) (omega arith) (omega arith))
        (ap (λ v. goes_on_to t v d) (take_whole s.net (length s.net) (omega arith)) ∙ on))
        (le-leb s.onward d (omega arith))

    not_whole : is_whole t s.net ≡ false
    not_whole = by_test (is_whole t s.net) refl
      where
        by_test : (w : Bool) → is_whole t s.net ≡ w → is_whole t s.net ≡ false
        by_test false is = is
        by_test true is = absurd (false≢true (sym (ap (has d) (whole_ends t s.net laid.in_order is)) ∙ on))

    way : way_on s ≡ Some d
    way = ap (λ b. if b then None else (if is_whole s.shape s.net then None else least (filter (λ x. leb s.onward x) (flat_map (next_steps s.shape) (kept_prefixes s.shape s.net))))) begun
        ∙ (ap (λ x. if is_whole x s.net then None else least (filter (λ y. leb s.onward y) (flat_map (next_steps x) (kept_prefixes x s.net)))) shape
        ∙ (ap (λ b. if b then None else least (filter (λ x. leb s.onward x) (flat_map (next_steps t) (kept_prefixes t s.net)))) not_whole
        ∙ least_of (filter (λ x. leb s.onward x) (flat_map (next_steps t) (kept_prefixes t s.net))) d among_ways no_less))

    -- the way goes on from all that is done
    kept_all : kept_for s.shape s.net d ≡ s.net
    kept_all =
        sym (branch_from t (kept_for s.shape s.net d) d laid.in_order laid.rising (ap (λ x. goes_on_to x (kept_for s.shape s.net d) d) (sym shape) ∙ (way_on-is s d way).on))
        ∙ branch_from t s.net d laid.in_order laid.rising on

    stays : staying s ≡ length s.net
    stays = ap (λ b. if b then fixed_len s.shape s.net else (if is_whole s.shape s.net then length s.net else staying_for s (way_on s))) begun
        ∙ (ap (λ b. if b then length s.net else staying_for s (way_on s)) (ap (λ x. is_whole x s.net) shape ∙ not_whole)
        ∙ (ap (staying_for s) way ∙ ap length kept_all))

    nothing_pending : pending_steps s ≡ []
    nothing_pending = drop_past (staying s) s.net (let l = stays in omega arith)

    -- a step of the path is left: it is next
    at_its_next : next_task s ≡ record { work = Forward; step = d }
    at_its_next = ap (λ o. undo_or (step_or_end (if s.begun then first_of (forward s.shape s.net) else way_on s)) o) (ap last_of nothing_pending)
        ∙ ap step_or_end (ap (λ b. if b then first_of (forward s.shape s.net) else way_on s) begun ∙ way)

  -- so it is next whatever is left of the path
  pub next_along : (rest : List ℕ) → s.net ++ rest ≡ p → next_task s ≡ step_or_end (first_of rest)
  next_along [] all = at_its_end (sym (append-nil s.net) ∙ all)
  next_along (d ∷ r) all = at_its_next d r all
