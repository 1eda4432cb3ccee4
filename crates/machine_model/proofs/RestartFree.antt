-- Once all have begun to complete, the process whose turn it is in a restart is never blocked: its next piece is the head of the
-- completion, which may come.
use Rattle.std.proofs.Common.{◌≡◌, ℕ, true, false, List, [], ◌∷◌, ◌++◌, filter, length, Some, None, sym, refl, ap, subst, ◌∙◌, if◌then◌else◌}
use Rattle.std.specs.Bool.{IsTrue}
use Rattle.std.proofs.lemmas.Bool.{and_parts, eq-eqb, eqb-true}
use Rattle.process_tree.specs.declared.entry.Entry.{Entry}
use Rattle.process_tree.specs.declared.plan.Plan.{Plan}
use Rattle.process_tree.specs.Recovery.{forward, reserved}
use Rattle.process_tree.specs.Shape.{first_of}
use Rattle.process_tree.proofs.TreeLaws.{paths_lie_in_order}
use Rattle.schedule_model.specs.declared.event.Event.TheVariants.{Act, End as Ended}
use Rattle.schedule_model.specs.Course.{courses_of, shape}
use Rattle.schedule_model.specs.Conflict.{ConflictRelation, IsSymmetric, conflict}
use Rattle.schedule_model.specs.Histories.{doing, is_active, is_in, net, net_steps, starts, undoing}
use Rattle.schedule_model.specs.Holdings.{active_net, at_rest, behind}
use Rattle.schedule_model.specs.Blocking.{against_end, against_undo, all_clashes}
use Rattle.schedule_model.specs.Legal.{class_in, is_clear, is_legal, may_come}
use Rattle.schedule_model.specs.OwnOrder.{keeps_order}
use Rattle.schedule_model.specs.EachEvent.{each_passes}
use Rattle.schedule_model.proofs.Acting.{act_active, act_in_order}
use Rattle.schedule_model.proofs.Clear.{FrontApart, against-none, clear-from_nothing, end-clear, front-none, holders-at_rest, undo-clear}
use Rattle.schedule_model.proofs.Conflicts.{conflict-undo_left}
use Rattle.schedule_model.specs.Laws.{AreGood}
use Rattle.schedule_model.proofs.Entries.{acts-of_plans}
use Rattle.schedule_model.proofs.GoodPlans.{good_if_goes_on}
use Rattle.schedule_model.proofs.Induction.{each_passes-append}
use Rattle.schedule_model.proofs.Members.{Among}
use Rattle.schedule_model.proofs.OwedPaths.{owed_is_reserved}
use Rattle.schedule_model.proofs.StandingLaws.{completion-law}
use Rattle.machine_model.specs.declared.kept.Work.{Work}
use Rattle.machine_model.specs.declared.kept.Work.TheVariants.{Forward, Undo, End}
use Rattle.machine_model.specs.Progress.{next_task, same_task, way_on}
use Rattle.machine_model.specs.Moment.{Moment, has_begun}
use Rattle.machine_model.specs.State.{against_work, block_of, holdings, next_of, progress}
use Rattle.machine_model.specs.Advance.{event_by}
use Rattle.machine_model.specs.Runs.{now}
use Rattle.machine_model.specs.Laws.{AllHaveBegun, RestartIsFree, next_in_restart}
use Rattle.machine_model.proofs.Clear.{clear-none}
use Rattle.machine_model.proofs.LegalRuns.{session-legal}
use Rattle.machine_model.proofs.OpenHoldings.{holders-active}
use Rattle.machine_model.proofs.ReservedFree.{ReservedFree, session-reserved_free}
use Rattle.machine_model.proofs.OwedSteps.{owed_unblocked}
use Rattle.machine_model.proofs.OwnOrder.{first_listed, next_step, on_from}
use Rattle.machine_model.proofs.Restart.{follows_completion}

module _ (table : ConflictRelation) (symmetric : IsSymmetric table) (plans : List Plan) (good : AreGood plans) (m : Moment) (facts : ReservedFree table symmetric plans good m) (i : ℕ) where
  -- the event of its next piece may come
  abbrev MayCome : Work → Type 0
  MayCome w = IsTrue (may_come table (courses_of plans) m.events (event_by (courses_of plans) i (next_of (courses_of plans) m i).step w))

  unblocked : (w : Work) → (next_of (courses_of plans) m i).work ≡ w → MayCome w → (w ≡ Forward → has_begun m i ≡ true) → block_of table (courses_of plans) m i ≡ None
  unblocked Undo work may begun =
      let h = m.events in
      let c = courses_of plans in
      let t = next_of c m i in
      let x = doing c i t.step in
      let g = holdings c m in
      let clear = (and_parts (keeps_order c h (Act (undoing x))) (is_clear table c h (Act (undoing x))) may).1 in
      let none = against-none table x (behind x (net h)) (λ y back. sym (conflict-undo_left table x y) ∙ undo-clear table c h (undoing x) refl clear y back) in
      let free = clear-from_nothing (against_undo table g x) (record { a0 = refl; a1 = refl; a2 = refl; a3 = refl; a4 = refl; a5 = none }) in
      clear-none (against_work table c g h i t.step t.work)
      (ap (λ v. length (all_clashes (against_work table c g h i t.step v))) work ∙ eqb-true (length (all_clashes (against_undo table g x))) 0 free)
  unblocked End work may begun =
      let h = m.events in
      let c = courses_of plans in
      let t = next_of c m i in
      let g = holdings c m in
      let clear = (and_parts (keeps_order c h (Ended i)) (is_clear table c h (Ended i)) may).1 in
      let same : active_net (at_rest c h) ≡ active_net g = ap (λ js. filter (λ (e : Entry). is_in e.process js) (net h)) (holders-at_rest c h ∙ sym (holders-active c m)) in
      let apart : FrontApart table g i = subst (λ es. (x y : Entry) → Among x es → Among y (behind x es) → y.process ≡ i → conflict table y x ≡ false) same (end-clear table c h i clear) in
      let free = clear-from_nothing (against_end table g i) (record { a0 = refl; a1 = refl; a2 = refl; a3 = front-none table g i apart; a4 = refl; a5 = refl }) in
      clear-none (against_work table c g h i t.step t.work)
      (ap (λ v. length (all_clashes (against_work table c g h i t.step v))) work ∙ eqb-true (length (all_clashes (against_end table g i))) 0 free)
  unblocked Forward work may begun =
      let h = m.events in
      let c = courses_of plans in
      let t = next_of c m i in
      let keeps = (and_parts (keeps_order c h (Act (doing c i t.step))) (is_clear table c h (Act (doing c i t.step))) may).0 in
      let on = on_from table plans good m i t.step keeps in
      let plan = good_if_goes_on plans i (net_steps h i) t.step good on in
      let next : same_task (record { work = Forward; step = t.step }) (next_task (progress c m i)) ≡ true =
      ap (λ w. same_task (record { work = Forward; step = t.step }) (record { work = w; step = t.step })) work ∙ eq-eqb t.step t.step refl in
      let first = sym (ap (λ b. if b then first_of (forward (shape c i) (net_steps h i)) else way_on (progress c m i)) (begun refl)) ∙ (next_step (progress c m i) t.step next).1 in
      let listed = first_listed (forward (shape c i) (net_steps h i)) t.step first in
      let class : class_in c h i t.step ≡ reserved = owed_is_reserved (shape c i) (paths_lie_in_order (shape c i) plan.tree) plan.well_formed (net_steps h i) t.step listed.0 listed.1 in
      let goes = (act_in_order c h (doing c i t.step) keeps).0 in
      owed_unblocked table symmetric plans good m facts i goes work class

-- so it is at a moment at which all have begun
pub turn_free : (table : ConflictRelation) (symmetric : IsSymmetric table) (plans : List Plan) (good : AreGood plans) (m : Moment) → ReservedFree table symmetric plans good m → length plans ≡ length (starts m.events)
    → IsTrue (is_legal table (courses_of plans) m.events) → AllHaveBegun m → (i : ℕ) → next_in_restart (courses_of plans) m ≡ Some i → block_of table (courses_of plans) m i ≡ None
turn_free table symmetric plans good m facts one_each legal all i turn =
    let c = courses_of plans in
    let h = m.events in
    let t = next_of c m i in
    let head = follows_completion c m (acts-of_plans table c h legal) all i turn in
    let law = completion-law table plans h (record { symmetric = symmetric; good = good; one_each = one_each; legal = legal }) in
    let later = (and_parts _ _ (sym (each_passes-append (may_come table c) [] h (event_by c i t.step t.work ∷ head.0)) ∙ (ap (λ es. each_passes (may_come table c) [] (h ++ es)) (sym head.1) ∙ law.0))).1 in
    let may = (and_parts (may_come table c h (event_by c i t.step t.work)) _ later).0 in
    unblocked table symmetric plans good m facts i t.work refl may (λ forward'. all i (active_at t.work forward' may))
  where
    active_at : (w : Work) → w ≡ Forward → IsTrue (may_come table (courses_of plans) m.events (event_by (courses_of plans) i (next_of (courses_of plans) m i).step w)) → is_active m.events i ≡ true
    active_at w is may =
        let c = courses_of plans in
        let h = m.events in
        let x = doing c i (next_of c m i).step in
        let may' = subst (λ v. IsTrue (may_come table c h (event_by c i (next_of c m i).step v))) is may in
        act_active table c h x may'

pub restart_is_free : RestartIsFree
restart_is_free table plans s session all i turn =
    subst (λ xs. block_of table xs (now table s) i ≡ None) (sym session.courses)
    (turn_free table session.symmetric plans session.good (now table s) (session-reserved_free table plans s session) session.one_each (session-legal table plans s session).legal all i
    (ap (λ xs. next_in_restart xs (now table s)) (sym session.courses) ∙ turn))
