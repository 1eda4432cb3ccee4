-- Who shares nothing is in no cascade of another: nothing of it conflicts with what another process takes back.
use Rattle.std.proofs.Common.{◌≡◌, ◌⊎◌, inl, inr, ⊎_elim, ℕ, Bool, true, false, not, if◌then◌else◌, eqb, ◌&&◌, List, [], ◌∷◌, ◌++◌, drop, filter, find, cond, Option, Some, None, sym, refl, ap, subst, ◌∙◌}
use Rattle.std.specs.List.{list_any}
use Rattle.std.specs.Option.{option_to_list}
use Rattle.std.proofs.lemmas.Bool.{and_parts, and_from, eq-eqb, eqb-true, false≢true, or_right, or_left, or_cases}
use Rattle.std.proofs.lemmas.Option.{none-some, same_Some}
use Rattle.process_tree.specs.Order.{Each}
use Rattle.process_tree.specs.Shape.{fixed_len}
use Rattle.process_tree.specs.declared.entry.Entry.{Entry}
use Rattle.process_tree.specs.declared.plan.Plan.{Plan}
use Rattle.schedule_model.specs.Course.{Course, courses_of, shape}
use Rattle.schedule_model.specs.Conflict.{ConflictRelation, IsSymmetric, conflict}
use Rattle.schedule_model.specs.Histories.{active, is_active, is_in, net, net_of, net_steps}
use Rattle.schedule_model.specs.Holdings.{Hold, Holdings, all_running, behind, holders, running_steps}
use Rattle.schedule_model.specs.Laws.{AreGood}
use Rattle.schedule_model.specs.OwnOrder.{keeps_order}
use Rattle.schedule_model.proofs.Active.{is_active-is_in, is_in-filter}
use Rattle.schedule_model.proofs.Behind.{among_behind}
use Rattle.schedule_model.proofs.Conflicts.{conflict-flipped}
use Rattle.schedule_model.proofs.Members.{Among, among-any, among-append, among-filter, among-flat_map, among-map, is_in-among}
use Rattle.machine_model.specs.declared.kept.Work.{Work}
use Rattle.machine_model.specs.declared.kept.Work.TheVariants.{Forward, Undo, End}
use Rattle.machine_model.specs.Cascade.{backward_of, drags, takes_back_all}
use Rattle.machine_model.specs.Moment.{Moment, Piece}
use Rattle.machine_model.specs.Pieces.{running_of}
use Rattle.machine_model.specs.Progress.{staying}
use Rattle.machine_model.specs.State.{entry_by, entry_of, hold_of, holdings, pending_of, progress}
use Rattle.machine_model.specs.Advance.{cascade_of, event_by}
use Rattle.machine_model.proofs.Cascades.{cascade-least}
use Rattle.machine_model.proofs.OpenHoldings.{holds-active}
use Rattle.machine_model.proofs.OwnOrder.{InOwnOrder, piece_keeps}
use Rattle.machine_model.proofs.PendingFree.{in_whole}
use Rattle.machine_model.proofs.RunningNext.{IsNextPiece}
use Rattle.user_guarantees.specs.Independence.{shares_nothing}
use Rattle.user_guarantees.proofs.HeldEntries.{held_net_of}
use Rattle.user_guarantees.proofs.KnownEntries.{IsKnown, known_net, step-keeps, undo-keeps}
use Rattle.user_guarantees.proofs.LeftAlone.{apart}

each-among : {X : Type 0} (P : X → Type 0) (x : X) (xs : List X) → Each P xs → Among x xs → P x
each-among P x [] all is = absurd is
each-among P x (y ∷ ys) all (inl here) = subst P here all.0
each-among P x (y ∷ ys) all (inr later) = each-among P x ys all.1 later

found-among : {X : Type 0} (q : X → Bool) (x : X) (xs : List X) → find q xs ≡ Some x → Among x xs
found-among q x [] is = absurd (none-some x is)
found-among q x (y ∷ ys) is = by_test (q y) is (found-among q x ys)
  where
    by_test : (t : Bool) → cond t (Some y) (find q ys) ≡ Some x → (find q ys ≡ Some x → Among x ys) → Among x (y ∷ ys)
    by_test true here rest = inl (same_Some y x here)
    by_test false later rest = inr (rest later)

module _ (table : ConflictRelation) (symmetric : IsSymmetric table) (plans : List Plan) (good : AreGood plans) (m : Moment) (own : InOwnOrder table plans good m)
    (i : ℕ) (goes : is_active m.events i ≡ true) (alone : shares_nothing table (courses_of plans) m.events i ≡ true) where
  abbrev cs : List Course
  cs = courses_of plans

  -- a moment with this history, at which nothing more is out
  module _ (mid : Moment) (same : mid.events ≡ m.events) (within : (p : Piece) → Among p mid.out → Among p m.out) where
    abbrev g : Holdings
    g = holdings (courses_of plans) mid

    out_keeps : (p : Piece) (w : Work) → Among p m.out → p.work ≡ w → keeps_order cs m.events (event_by cs p.process p.step w) ≡ true
    out_keeps p w listed work =
        ap (λ v. keeps_order cs m.events (event_by cs p.process p.step v)) (sym work)
        ∙ piece_keeps table plans good m p own (each-among (IsNextPiece cs m) p m.out own.order.next listed) (each-among (λ (q : Piece). is_active m.events q.process ≡ true) p m.out own.active listed)

    known_running : (y : Entry) → Among y (all_running g) → IsKnown plans good y
    known_running y is =
        let found = among-flat_map (λ (o : Hold). option_to_list o.running) y g.holds is in
        let hold = among-map (hold_of cs mid) found.0 (active mid.events) found.1 in
        by_running hold.0 (running_of mid hold.0) refl (subst (λ (o : Hold). Among y (option_to_list o.running)) (sym hold.2) found.2)
      where
        by_work : (p : Piece) (w : Work) → Among p m.out → p.work ≡ w → Among y (option_to_list (entry_by cs p.process p.step w)) → IsKnown plans good y
        by_work p Forward listed work (inl its) = subst (IsKnown plans good) its (refl, step-keeps plans good m.events p.process p.step (out_keeps p Forward listed work))
        by_work p Forward listed work (inr none) = absurd none
        by_work p Undo listed work (inl its) = subst (IsKnown plans good) its (refl, undo-keeps plans good m.events p.process p.step own.legal (out_keeps p Undo listed work))
        by_work p Undo listed work (inr none) = absurd none
        by_work p End listed work none = absurd none

        by_running : (k : ℕ) (o : Option Piece) → running_of mid k ≡ o → Among y (option_to_list (entry_of cs (running_of mid k))) → IsKnown plans good y
        by_running k None runs listed = absurd (subst (λ o. Among y (option_to_list (entry_of cs o))) runs listed)
        by_running k (Some p) runs listed =
            by_work p p.work (within p (found-among (λ q. eqb q.process k) p mid.out runs)) refl (subst (λ o. Among y (option_to_list (entry_of cs o))) runs listed)

    module _ (root : ℕ) (root_goes : is_active m.events root ≡ true) where
      abbrev entries : List Entry
      entries = pending_of (courses_of plans) mid root

      -- what an active process takes back, it has done
      taken : (j : ℕ) (x : Entry) → Among x (takes_back_all g root entries j) → (is_active m.events j ≡ true) × Among x (net_of m.events j)
      taken j x is = by_root (eqb j root) refl is
        where
          there : (k n : ℕ) → Among x (drop n (net_of mid.events k)) → Among x (net_of m.events k)
          there k n listed = subst (λ h. Among x (net_of h k)) same (in_whole x n (net_of mid.events k) listed)

          by_hold : (o : Hold) (k : ℕ) → is_active m.events k ≡ true → hold_of cs mid k ≡ o → (t : Bool) → eqb o.process j ≡ t → Among x (if t then o.backward_entries else []) → (is_active m.events j ≡ true) × Among x (net_of m.events j)
          by_hold o k k_goes is' false its none = absurd none
          by_hold o k k_goes is' true its listed =
              let at : k ≡ j = eqb-true k j (ap (λ (h : Hold). eqb h.process j) is' ∙ its) in
              subst (λ a. (is_active m.events a ≡ true) × Among x (net_of m.events a)) at
              (k_goes, there k (fixed_len (shape cs k) (net_steps mid.events k)) (subst (λ (h : Hold). Among x h.backward_entries) (sym is') listed))

          by_root : (t : Bool) → eqb j root ≡ t → Among x (if t then entries else backward_of g j) → (is_active m.events j ≡ true) × Among x (net_of m.events j)
          by_root true its listed =
              subst (λ a. (is_active m.events a ≡ true) × Among x (net_of m.events a)) (sym (eqb-true j root its)) (root_goes, there root (staying (progress cs mid root)) listed)
          by_root false its listed =
              let found = among-flat_map (λ (o : Hold). if eqb o.process j then o.backward_entries else []) x g.holds listed in
              let hold = among-map (hold_of cs mid) found.0 (active mid.events) found.1 in
              by_hold found.0 hold.0 (ap (λ h. is_active h hold.0) (sym same) ∙ (sym (is_active-is_in mid.events hold.0) ∙ is_in-among hold.0 (active mid.events) hold.1)) hold.2 (eqb found.0.process j) refl found.2

      -- nobody drags the process along
      drags_not : (j : ℕ) → drags table g root entries j i ≡ true → ⊥
      drags_not j is =
          let first = among-any (λ x. list_any (λ (y : Entry). eqb y.process i && conflict table x y) (behind x g.net ++ running_steps g)) (takes_back_all g root entries j) is in
          let x = first.0 in
          let second = among-any (λ (y : Entry). eqb y.process i && conflict table x y) (behind x g.net ++ running_steps g) first.2 in
          let y = second.0 in
          let parts = and_parts (eqb y.process i) (conflict table x y) second.2 in
          let took = taken j x first.1 in
          let known = ⊎_elim (λ back. known_net plans good m.events own.legal y (subst (λ h. Among y (net h)) same (among_behind x y g.net back)))
          (λ runs. known_running y (among-filter (λ (e : Entry). not e.undo) y (all_running g) runs).0) (among-append y (behind x g.net) (running_steps g) second.1) in
          let free = apart table symmetric plans good m own i goes alone y x known (eqb-true y.process i parts.0) (held_net_of table plans good m own j x took.0 took.1) in
          false≢true (sym (conflict-flipped table symmetric y x free) ∙ parts.1)

      abbrev others : List ℕ
      others = filter (λ k. not (eqb k i)) (root ∷ holders g)

      in_others : (k : ℕ) → is_in k (root ∷ holders g) ≡ true → eqb k i ≡ false → is_in k others ≡ true
      in_others k listed other = is_in-filter (λ k. not (eqb k i)) k (root ∷ holders g) ∙ and_from (is_in k (root ∷ holders g)) (not (eqb k i)) listed (ap not other)

      dragged_others : (j k : ℕ) → is_in k (holders g) ≡ true → drags table g root entries j k ≡ true → (t : Bool) → eqb k i ≡ t → is_in k others ≡ true
      dragged_others j k listed dragged true own' = absurd (drags_not j (subst (λ a. drags table g root entries j a ≡ true) (eqb-true k i own') dragged))
      dragged_others j k listed dragged false other = in_others k (or_right (eqb k root) (is_in k (holders g)) listed) other

      -- so the cascade does without it
      pub never_dragged : eqb root i ≡ false → is_in i (cascade_of table cs mid root) ≡ false
      never_dragged other = by_test (is_in i (cascade_of table cs mid root)) refl
        where
          least_ones : (k : ℕ) → is_in k (cascade_of table cs mid root) ≡ true → is_in k others ≡ true
          least_ones =
              (cascade-least table g root entries (holds-active cs mid root ∙ (ap (λ h. is_active h root) same ∙ root_goes))).least others
              (λ k is. only k (or_cases (eqb k root) false is))
              (λ j k from listed dragged. dragged_others j k listed dragged (eqb k i) refl)
            where
              only : (k : ℕ) → (eqb k root ≡ true) ⊎ (false ≡ true) → is_in k others ≡ true
              only k (inl its) = in_others k (or_left (eqb k root) (is_in k (holders g)) its) (ap (λ a. eqb a i) (eqb-true k root its) ∙ other)
              only k (inr none) = absurd (false≢true none)

          by_test : (t : Bool) → is_in i (cascade_of table cs mid root) ≡ t → is_in i (cascade_of table cs mid root) ≡ false
          by_test false is = is
          by_test true is =
              let member = sym (is_in-filter (λ k. not (eqb k i)) i (root ∷ holders g)) ∙ least_ones i is in
              absurd (false≢true (sym (ap not (eq-eqb i i refl)) ∙ (and_parts (is_in i (root ∷ holders g)) (not (eqb i i)) member).1))
