-- A step that its process owes is never blocked: it is reserved, and what is reserved is free of all others.
use Rattle.std.proofs.Common.{◌≡◌, ◌⊎◌, inl, inr, ℕ, true, false, not, eqb, ◌&&◌, List, ◌++◌, length, take, drop, Option, Some, None, sym, refl, ap, subst, ◌∙◌}
use Rattle.std.specs.Option.{option_to_list}
use Rattle.std.proofs.lemmas.Bool.{and_parts, eqb-true}
use Rattle.std.proofs.lemmas.List.{take-append-drop}
use Rattle.process_tree.specs.Conflicts.{same_access}
use Rattle.process_tree.specs.Entries.{access_of}
use Rattle.process_tree.specs.declared.entry.Entry.{Entry}
use Rattle.process_tree.specs.declared.plan.Plan.{Plan}
use Rattle.process_tree.specs.Recovery.{reserved}
use Rattle.schedule_model.specs.Course.{Course, courses_of, access_at}
use Rattle.schedule_model.specs.Conflict.{ConflictRelation, IsSymmetric, conflict}
use Rattle.schedule_model.specs.Histories.{active, doing, is_active, net_of, net_steps}
use Rattle.schedule_model.specs.Holdings.{Hold, Holdings, all_pending, all_reserved, all_running}
use Rattle.schedule_model.specs.Blocking.{against_step, all_clashes}
use Rattle.schedule_model.specs.Laws.{AreGood}
use Rattle.schedule_model.specs.Legal.{class_in}
use Rattle.schedule_model.specs.OwnOrder.{goes_on, keeps_order}
use Rattle.schedule_model.specs.Recovery.{owed, owed_after}
use Rattle.schedule_model.proofs.Active.{is_active-is_in}
use Rattle.schedule_model.proofs.ClassFacts.{class-facts}
use Rattle.schedule_model.proofs.Clear.{ApartFrom, against-none, clear-from_nothing}
use Rattle.schedule_model.proofs.CompletionFirst.{net-of_plans}
use Rattle.schedule_model.proofs.Members.{Among, among-append, among-flat_map, among-is_in, among-left, among-map, among-right, is_in-among}
use Rattle.schedule_model.proofs.Started.{among_net_of}
use Rattle.machine_model.specs.declared.kept.Work.{Work}
use Rattle.machine_model.specs.declared.kept.Work.TheVariants.{Forward, Undo, End}
use Rattle.machine_model.specs.Progress.{pending_steps, staying}
use Rattle.machine_model.specs.Moment.{Moment, Piece}
use Rattle.machine_model.specs.Pieces.{running_of}
use Rattle.machine_model.specs.State.{against_work, block_of, entry_by, entry_of, hold_of, holdings, next_of, progress}
use Rattle.machine_model.specs.Advance.{event_by}
use Rattle.machine_model.specs.Runs.{now}
use Rattle.machine_model.specs.Laws.{OwedStepsAreFree}
use Rattle.machine_model.proofs.Clear.{clear-none}
use Rattle.machine_model.proofs.GonePieces.{dropped_listed, last_listed, next_undo}
use Rattle.machine_model.proofs.HandedPieces.{runs_active}
use Rattle.machine_model.proofs.NextInOrder.{next_keeps}
use Rattle.machine_model.proofs.ReservedFree.{ReservedFree, session-reserved_free}
use Rattle.machine_model.proofs.RunningNext.{IsNextPiece}
use Rattle.machine_model.proofs.TidyMoments.{Each-find}

module _ (table : ConflictRelation) (symmetric : IsSymmetric table) (plans : List Plan) (good : AreGood plans) (m : Moment) (facts : ReservedFree table symmetric plans good m) where
  abbrev cs : List Course
  cs = courses_of plans

  abbrev g : Holdings
  g = holdings (courses_of plans) m

  -- a hold is that of an active process
  holder_of : (o : Hold) → Among o g.holds → (k : ℕ) × (is_active m.events k ≡ true) × (hold_of cs m k ≡ o)
  holder_of o is = let found = among-map (hold_of cs m) o (active m.events) is in (found.0, sym (is_active-is_in m.events found.0) ∙ is_in-among found.0 (active m.events) found.1, found.2)

  -- what process i reserves conflicts with nothing that runs, is reserved or is pending
  module _ (i : ℕ) (r : Entry) (goes : is_active m.events i ≡ true) (owes : Among r (hold_of cs m i).reserved) where
    -- the entry of a step that is undone is in the net
    undone_apart : (k : ℕ) (p : Piece) → is_active m.events k ≡ true → running_of m k ≡ Some p → p.work ≡ Undo → conflict table r (doing cs k p.step) ≡ false
    undone_apart k p other runs undo =
        let its = (runs_active table cs m k p facts.own.active runs).0 in
        let next : IsNextPiece cs m p = Each-find (IsNextPiece cs m) (λ (q : Piece). eqb q.process k) m.out p facts.own.order.next runs in
        let s = progress cs m p.process in
        let last = next_undo s p.step (subst (λ w. IsNextPiece cs m (record { number = p.number; process = p.process; step = p.step; work = w })) undo next) in
        let listed = dropped_listed (staying s) (net_steps m.events p.process) p.step (last_listed (pending_steps s) p.step last) in
        let y = among-map (λ (x : Entry). x.step) p.step (net_of m.events p.process) (among-is_in p.step (net_steps m.events p.process) listed) in
        let own = among_net_of m.events p.process y.0 y.1 in
        let op = net-of_plans plans good m.events facts.own.legal y.0 own.0 in
        let free = facts.free i k r y.0 goes other owes (inl (inl (subst (λ j. Among y.0 (net_of m.events j)) its y.1))) in
        ap (λ (j : ℕ). not (eqb r.process j) && table (access_of r) (access_at cs k p.step)) (sym (own.1 ∙ its))
        ∙ (ap (λ o. not (eqb r.process y.0.process) && table (access_of r) o) (ap (λ j. access_at cs j p.step) (sym (own.1 ∙ its)) ∙ (ap (access_at cs y.0.process) (sym y.2) ∙ sym op)) ∙ free)

    running_apart : ApartFrom table r (all_running g)
    running_apart x is =
        let found = among-flat_map (λ (o : Hold). option_to_list o.running) x g.holds is in
        let own = holder_of found.0 found.1 in
        by_running own.0 own.1 (running_of m own.0) refl (subst (λ (o : Hold). Among x (option_to_list o.running)) (sym own.2) found.2)
      where
        by_work : (k : ℕ) (p : Piece) (w : Work) → is_active m.events k ≡ true → running_of m k ≡ Some p → p.work ≡ w → p.process ≡ k → Among x (option_to_list (entry_by cs k p.step w)) → conflict table r x ≡ false
        by_work k p Forward other runs work its (inl same) = facts.free i k r x goes other owes (inr (p, runs, work, sym same))
        by_work k p Forward other runs work its (inr none) = absurd none
        by_work k p Undo other runs work its (inl same) = ap (conflict table r) (sym same) ∙ undone_apart k p other runs work
        by_work k p Undo other runs work its (inr none) = absurd none
        by_work k p End other runs work its none = absurd none

        by_running : (k : ℕ) → is_active m.events k ≡ true → (o : Option Piece) → running_of m k ≡ o → Among x (option_to_list (entry_of cs (running_of m k))) → conflict table r x ≡ false
        by_running k other None runs listed = absurd (subst (λ o. Among x (option_to_list (entry_of cs o))) runs listed)
        by_running k other (Some p) runs listed =
            let its = (runs_active table cs m k p facts.own.active runs).0 in
            by_work k p p.work other runs refl its (subst (λ j. Among x (option_to_list (entry_by cs j p.step p.work))) its (subst (λ o. Among x (option_to_list (entry_of cs o))) runs listed))

    held_apart : ApartFrom table r (all_reserved g ++ all_pending g)
    held_apart x is = by_list (among-append x (all_reserved g) (all_pending g) is)
      where
        by_list : Among x (all_reserved g) ⊎ Among x (all_pending g) → conflict table r x ≡ false
        by_list (inl reserved') =
            let found = among-flat_map (λ (o : Hold). o.reserved) x g.holds reserved' in
            let own = holder_of found.0 found.1 in
            facts.free i own.0 r x goes own.1 owes (inl (inr (subst (λ (o : Hold). Among x o.reserved) (sym own.2) found.2)))
        by_list (inr pending') =
            let found = among-flat_map (λ (o : Hold). o.pending) x g.holds pending' in
            let own = holder_of found.0 found.1 in
            let n = staying (progress cs m own.0) in
            let es = net_of m.events own.0 in
            facts.free i own.0 r x goes own.1 owes (inl (inl (subst (Among x) (take-append-drop n es) (among-right x (take n es) (drop n es) (subst (λ (o : Hold). Among x o.pending) (sym own.2) found.2)))))

  -- so a step that is owed isn't blocked
  pub owed_unblocked : (i : ℕ) → is_active m.events i ≡ true → (next_of cs m i).work ≡ Forward → class_in cs m.events i (next_of cs m i).step ≡ reserved → block_of table cs m i ≡ None
  owed_unblocked i goes work class =
      let t = next_of cs m i in
      let b = t.step in
      let keeps = ap (λ w. keeps_order cs m.events (event_by cs i b w)) (sym work) ∙ next_keeps plans good m facts.own.legal i (facts.own.ahead i) goes in
      let on = (and_parts (is_active m.events i && same_access (access_at cs i b) (access_at cs i b)) (goes_on cs m.events i b) keeps).1 in
      let first = (class-facts plans m.events i b good on).reserved_owes class in
      let owes : Among (doing cs i b) (hold_of cs m i).reserved = among-left (doing cs i b) (owed cs m.events i) _ (subst (Among (doing cs i b)) (sym first) (inl refl)) in
      let clear = clear-from_nothing (against_step table g reserved (doing cs i b) (owed_after cs m.events i b)) (record {
        a0 = against-none table (doing cs i b) (all_running g) (running_apart i (doing cs i b) goes owes);
        a1 = against-none table (doing cs i b) (all_reserved g ++ all_pending g) (held_apart i (doing cs i b) goes owes);
        a2 = refl;
        a3 = refl;
        a4 = refl;
        a5 = refl;
      }) in
      clear-none (against_work table cs g m.events i b t.work)
      (ap (λ w. length (all_clashes (against_work table cs g m.events i b w))) work
      ∙ (ap (λ c. length (all_clashes (against_step table g c (doing cs i b) (owed_after cs m.events i b)))) class ∙ eqb-true (length (all_clashes (against_step table g reserved (doing cs i b) (owed_after cs m.events i b)))) 0 clear))

pub owed_steps_are_free : OwedStepsAreFree
owed_steps_are_free table plans s session i goes work class =
    let m = now table s in
    subst (λ xs. block_of table xs m i ≡ None) (sym session.courses)
    (owed_unblocked table session.symmetric plans session.good m (session-reserved_free table plans s session) i goes (ap (λ xs. (next_of xs m i).work) (sym session.courses) ∙ work)
    (ap (λ xs. class_in xs m.events i (next_of xs m i).step) (sym session.courses) ∙ class))
