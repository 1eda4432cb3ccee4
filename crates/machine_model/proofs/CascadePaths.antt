-- A cascade and the conflict graph: whoever has built on what a member takes back is a member, and paths lead to each member from
-- the root, so nothing of the root stands behind what another member takes back and conflicts with it.
use Rattle.std.proofs.Common.{◌≡◌, ◌⊎◌, inl, inr, ⊎_elim, ℕ, Bool, true, false, not, eqb, ◌&&◌, List, [], ◌∷◌, ◌++◌, filter, if◌then◌else◌, Option, Some, None, sym, refl, ap, subst, ◌∙◌}
use Rattle.std.specs.Option.{option_to_list}
use Rattle.std.specs.List.{list_any}
use Rattle.std.proofs.lemmas.Bool.{and_from, and_parts, eqb-true, eq-eqb, false≢true, or_cases, or_left, or_right}
use Rattle.process_tree.specs.declared.entry.Entry.{Entry}
use Rattle.schedule_model.specs.Course.{Course}
use Rattle.schedule_model.specs.Conflict.{ConflictRelation, conflict}
use Rattle.schedule_model.specs.Graph.{one_arrow, and_then, reached}
use Rattle.schedule_model.specs.Histories.{active, is_active, is_in, net, net_of}
use Rattle.schedule_model.specs.Holdings.{Hold, Holdings, all_running, arrow, behind, holders, running_steps}
use Rattle.schedule_model.proofs.Active.{is_active-is_in}
use Rattle.schedule_model.proofs.Members.{Among, among-any, among-append, among-filter, among-flat_map, among-left, among-map, any-among, in_filter, in_flat_map, is_in-among}
use Rattle.schedule_model.proofs.Started.{among_net_of}
use Rattle.schedule_model.proofs.Walks.{leads-from_walk, reached_closed, walk-from_leads}
use Rattle.machine_model.specs.Cascade.{backward_of, drags, takes_back_all}
use Rattle.machine_model.specs.Moment.{Moment, Piece}
use Rattle.machine_model.specs.Pieces.{running_of}
use Rattle.machine_model.specs.State.{entry_of, hold_of, holdings, pending_of}
use Rattle.machine_model.specs.Advance.{cascade_of}
use Rattle.machine_model.proofs.Cascades.{cascade-least}
use Rattle.machine_model.proofs.HandedPieces.{among_holds}
use Rattle.machine_model.proofs.NoCircle.{BuildsOn, from_builds_on, path_from_walk, running_step}
use Rattle.machine_model.proofs.OpenHoldings.{holds-active}
use Rattle.machine_model.proofs.OwnOrder.{AllActive}
use Rattle.machine_model.proofs.Paths.{Path}
use Rattle.machine_model.proofs.PendingFree.{in_whole}

module _ (table : ConflictRelation) (courses : List Course) (mid : Moment) (root : ℕ) where
  abbrev g : Holdings
  g = holdings courses mid

  -- whoever has a net entry behind what a member takes back that conflicts with it is a member
  pub dragged_by_net : (j k : ℕ) (x e : Entry) → is_in j (cascade_of table courses mid root) ≡ true → Among x (takes_back_all (holdings courses mid) root (pending_of courses mid root) j)
      → is_active mid.events k ≡ true → Among e (behind x (net mid.events)) → e.process ≡ k → conflict table x e ≡ true → is_in k (cascade_of table courses mid root) ≡ true
  dragged_by_net j k x e member taken goes back its conflicts =
      reached_closed (drags table g root (pending_of courses mid root)) (holders g) (root ∷ []) j k member (holds-active courses mid k ∙ goes)
      (any-among (λ y. list_any (λ (z : Entry). eqb z.process k && conflict table y z) (behind y g.net ++ running_steps g)) x (takes_back_all g root (pending_of courses mid root) j) taken
      (any-among (λ (z : Entry). eqb z.process k && conflict table x z) e (behind x g.net ++ running_steps g) (among-left e (behind x g.net) (running_steps g) back)
      (and_from (eqb e.process k) (conflict table x e) (eq-eqb e.process k its) conflicts)))

  -- what a member takes back is in its net
  in_its_net : (j : ℕ) (x : Entry) → is_active mid.events root ≡ true → Among x (takes_back_all (holdings courses mid) root (pending_of courses mid root) j) → Among x (net mid.events) × (x.process ≡ j) × (is_active mid.events j ≡ true)
  in_its_net j x root_goes taken = by_root (eqb j root) refl taken
    where
      by_hold : (o : Hold) (a : ℕ) → is_active mid.events a ≡ true → hold_of courses mid a ≡ o → (t : Bool) → eqb o.process j ≡ t → Among x (if t then o.backward_entries else []) → Among x (net mid.events) × (x.process ≡ j) × (is_active mid.events j ≡ true)
      by_hold o a goes is false same none = absurd none
      by_hold o a goes is true same listed =
          let at : a ≡ j = eqb-true a j (ap (λ (h : Hold). eqb h.process j) is ∙ same) in
          let mine = subst (λ (h : Hold). Among x h.backward_entries) (sym is) listed in
          let found = among_net_of mid.events a x (in_whole x _ (net_of mid.events a) mine) in
          (found.0, found.1 ∙ at, ap (is_active mid.events) (sym at) ∙ goes)

      by_root : (t : Bool) → eqb j root ≡ t → Among x (if t then pending_of courses mid root else backward_of g j) → Among x (net mid.events) × (x.process ≡ j) × (is_active mid.events j ≡ true)
      by_root true same listed =
          let found = among_net_of mid.events root x (in_whole x _ (net_of mid.events root) listed) in
          let at = eqb-true j root same in
          (found.0, found.1 ∙ sym at, ap (is_active mid.events) at ∙ root_goes)
      by_root false other listed =
          let found = among-flat_map (λ (o : Hold). if eqb o.process j then o.backward_entries else []) x g.holds listed in
          let own = among-map (hold_of courses mid) found.0 (active mid.events) found.1 in
          by_hold found.0 own.0 (sym (is_active-is_in mid.events own.0) ∙ is_in-among own.0 (active mid.events) own.1) own.2 (eqb found.0.process j) refl found.2

  module _ (m : Moment) (all_active : AllActive m) (events : mid.events ≡ m.events) (ran : (i : ℕ) (p : Piece) → running_of mid i ≡ Some p → running_of m i ≡ Some p) (root_goes : is_active m.events root ≡ true) where
    abbrev before : Holdings
    before = holdings courses m

    -- what is under way then was under way
    running_before : (y : Entry) → Among y (running_steps g) → Among y (running_steps before)
    running_before y is =
        let kept = among-filter (λ (e : Entry). not e.undo) y (all_running g) is in
        let found = among-flat_map (λ (o : Hold). option_to_list o.running) y g.holds kept.0 in
        let own = among-map (hold_of courses mid) found.0 (active mid.events) found.1 in
        let goes = ap (λ h. is_active h own.0) (sym events) ∙ (sym (is_active-is_in mid.events own.0) ∙ is_in-among own.0 (active mid.events) own.1) in
        in_filter (λ (e : Entry). not e.undo) y (all_running before)
        (in_flat_map (λ (o : Hold). option_to_list o.running) (hold_of courses m own.0) y before.holds (among_holds table courses m own.0 goes)
        (by_running own.0 (running_of mid own.0) refl (subst (λ (o : Hold). Among y (option_to_list o.running)) (sym own.2) found.2)))
        kept.1
      where
        by_running : (a : ℕ) (o : Option Piece) → running_of mid a ≡ o → Among y (option_to_list (entry_of courses (running_of mid a))) → Among y (option_to_list (entry_of courses (running_of m a)))
        by_running a None runs listed = absurd (subst (λ o. Among y (option_to_list (entry_of courses o))) runs listed)
        by_running a (Some p) runs listed = subst (λ o. Among y (option_to_list (entry_of courses o))) (runs ∙ sym (ran a p runs)) listed

    -- to drag along is to have an arrow
    dragged_arrow : (j k : ℕ) → is_in k (holders g) ≡ true → drags table g root (pending_of courses mid root) j k ≡ true → arrow table before j k ≡ true
    dragged_arrow j k held dragged =
        let first = among-any (λ (x : Entry). list_any (λ (y : Entry). eqb y.process k && conflict table x y) (behind x g.net ++ running_steps g)) (takes_back_all g root (pending_of courses mid root) j) dragged in
        let x = first.0 in
        let second = among-any (λ (y : Entry). eqb y.process k && conflict table x y) (behind x g.net ++ running_steps g) first.2 in
        let y = second.0 in
        let parts = and_parts (eqb y.process k) (conflict table x y) second.2 in
        let to = eqb-true y.process k parts.0 in
        let mine = in_its_net j x (ap (λ h. is_active h root) events ∙ root_goes) first.1 in
        let k_goes : is_active m.events k ≡ true = ap (λ h. is_active h k) (sym events) ∙ (sym (holds-active courses mid k) ∙ held) in
        from_builds_on table courses m all_active j k (record {
          x = x;
          y = y;
          x_stands = subst (λ h. Among x (net h)) events mine.0;
          x_active = ap (is_active m.events) mine.1 ∙ (ap (λ h. is_active h j) (sym events) ∙ mine.2);
          from = mine.1;
          to = to;
          conflicts = parts.1;
          y_stands =
              ⊎_elim (λ back. inl (subst (λ h. Among y (behind x (net h))) events back, ap (is_active m.events) to ∙ k_goes)) (λ runs. inr (running_step table courses m all_active y (running_before y runs)))
              (among-append y (behind x g.net) (running_steps g) second.1);
        })

    -- those to whom a walk leads from the root
    abbrev led : List ℕ
    led = reached (arrow table (holdings courses m)) (holders (holdings courses m)) (filter (arrow table (holdings courses m) root) (holders (holdings courses m)))

    held_before : (k : ℕ) → is_in k (holders g) ≡ true → is_in k (holders before) ≡ true
    held_before k held = holds-active courses m k ∙ (ap (λ h. is_active h k) (sym events) ∙ (sym (holds-active courses mid k) ∙ held))

    led_on : (j k : ℕ) → (eqb j root ≡ true) ⊎ (is_in j led ≡ true) → is_in k (holders before) ≡ true → arrow table before j k ≡ true → is_in k led ≡ true
    led_on j k (inl same) held a =
        leads-from_walk (arrow table before) (holders before) (one_arrow held (ap (λ i. arrow table before i k) (sym (eqb-true j root same)) ∙ a))
    led_on j k (inr is) held a = leads-from_walk (arrow table before) (holders before) (and_then (walk-from_leads (arrow table before) (holders before) root j is) held a)

    -- a path leads to each other member
    pub path_to_member : (k : ℕ) → is_in k (cascade_of table courses mid root) ≡ true → eqb k root ≡ false → Path (BuildsOn table courses m) root k
    path_to_member k member other =
        let least = (cascade-least table g root (pending_of courses mid root) (holds-active courses mid root ∙ (ap (λ h. is_active h root) events ∙ root_goes))).least (root ∷ led)
        (λ j is. ⊎_elim (λ same. or_left (eqb j root) (is_in j led) same) (λ none. absurd (false≢true none)) (or_cases (eqb j root) false is))
        (λ j i is held a. or_right (eqb i root) (is_in i led) (led_on j i (or_cases (eqb j root) (is_in j led) is) (held_before i held) (dragged_arrow j i held a)))
        k member in
        by_case (or_cases (eqb k root) (is_in k led) least)
      where
        by_case : (eqb k root ≡ true) ⊎ (is_in k led ≡ true) → Path (BuildsOn table courses m) root k
        by_case (inl same) = absurd (false≢true (sym other ∙ same))
        by_case (inr is) = path_from_walk table courses m all_active root k (walk-from_leads (arrow table before) (holders before) root k is)
