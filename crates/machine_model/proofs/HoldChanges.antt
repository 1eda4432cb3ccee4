-- What each kept event does to the hold of its own process.
use Rattle.std.proofs.Common.{◌≡◌, ℕ, Bool, true, false, not, cond, eqb, ◌&&◌, List, [], ◌∷◌, ◌++◌, find, drop, Option, Some, None, is_some, sym, refl, ap, subst, ◌∙◌, append-nil}
use Rattle.std.specs.List.{list_any}
use Rattle.std.proofs.lemmas.Option.{none-some, same_Some}
use Rattle.std.proofs.lemmas.Bool.{and_parts, or_parts, eqb-true, eq-eqb, false≢true}
use Rattle.process_tree.specs.Conflicts.{same_access}
use Rattle.process_tree.specs.Order.{Each}
use Rattle.process_tree.specs.declared.entry.Entry.{Entry}
use Rattle.process_tree.specs.declared.plan.Plan.{Plan}
use Rattle.process_tree.specs.Recovery.{StepClass, reserved, committing, undoable}
use Rattle.schedule_model.specs.declared.event.Event.{Event}
use Rattle.schedule_model.specs.declared.event.Event.TheVariants.{Act}
use Rattle.schedule_model.specs.Course.{Course, courses_of, access_at}
use Rattle.schedule_model.specs.Conflict.{ConflictRelation, no_conflict}
use Rattle.schedule_model.specs.Histories.{active, doing, is_active, net_of, undoing}
use Rattle.schedule_model.specs.Laws.{AreGood}
use Rattle.schedule_model.specs.Legal.{class_in}
use Rattle.schedule_model.specs.OwnOrder.{goes_on, keeps_order}
use Rattle.schedule_model.specs.Recovery.{backward_entries, owed, owed_after}
use Rattle.schedule_model.proofs.ClassFacts.{class-facts}
use Rattle.schedule_model.proofs.NoConflict.{may_come-no_conflict}
use Rattle.schedule_model.proofs.Snoc.{active-end}
use Rattle.schedule_model.proofs.Undoing.{undoes}
use Rattle.machine_model.specs.declared.kept.Kept.{Kept}
use Rattle.machine_model.specs.declared.kept.Kept.TheVariants.{Start, Hand, Effect, Refuse, Abort, Victim, Restart}
use Rattle.machine_model.specs.declared.kept.Work.TheVariants.{Forward, Undo, End}
use Rattle.machine_model.specs.Progress.{Progress, staying}
use Rattle.machine_model.specs.Moment.{Moment, Piece, noted, happened, has_begun, without}
use Rattle.machine_model.specs.Pieces.{piece_of, running_of, runs}
use Rattle.machine_model.specs.State.{entry_by, entry_of, hold_of, owed_by_class, owed_by_work, owed_soon, pending_of, progress}
use Rattle.machine_model.specs.Advance.{advance, event_of, with_piece}
use Rattle.machine_model.specs.Runs.{now}
use Rattle.machine_model.specs.HoldLaws.{BegunUndoAll, BeginningsStop, EndsGo, HandsReserve, StepTakesEffect, StepsTakeEffect, UndoTakesEffect, UndosTakeEffect, running_by_piece}
use Rattle.machine_model.specs.PieceLaws.{piece_touched, with_begun}
use Rattle.machine_model.proofs.CallsKept.{find-passes}
use Rattle.machine_model.proofs.Counting.{found-any}
use Rattle.machine_model.proofs.Frames.{entered-leaves, piece_of-plain}
use Rattle.machine_model.proofs.HoldSteps.{advance-running, effect_out, entered-begun, find_none, free_runs_none}
use Rattle.machine_model.proofs.OneCounter.{session-counts}
use Rattle.machine_model.proofs.OwnOrder.{InOwnOrder, out_piece, piece_keeps}
use Rattle.machine_model.proofs.PieceCounts.{is_number}
use Rattle.machine_model.proofs.RefusedPieces.{only_found}
use Rattle.machine_model.proofs.RunningNext.{others-out}
use Rattle.machine_model.proofs.Snoc.{advances, now-kept}
use Rattle.machine_model.proofs.TidyMoments.{Each-find, IsPieceOfItsNumber, Tidy, run-tidy}

pub begun_undo_all : BegunUndoAll
begun_undo_all courses m i is = ap (λ t. drop (staying (with_begun t (progress courses m i))) (net_of m.events i)) is

-- At a hand.
pub hands_reserve : HandsReserve
hands_reserve table s n i b w run may =
    let m = now table s in
    let cs = s.courses in
    let p : Piece = record { number = n; process = i; step = b; work = w } in
    let tidy = run-tidy table s run in
    let none = free_runs_none table cs m p may in
    let now' : running_of (noted m (Hand n i b w)) i ≡ Some p =
    advance-running table cs m (Hand n i b w) i tidy may ∙ (never_both (has_begun m i) None (cond (eqb i i) (Some p) (running_of m i)) ∙ ap (λ t. cond t (Some p) (running_of m i)) (eq-eqb i i refl)) in
    let same = entered-leaves table cs m (Hand n i b w) i tidy.counted may (λ q is. absurd (none-some q is)) in (
      ap (entry_of cs) none,
      ap (λ (o : Option Piece). record { process = i; running = entry_of cs o; reserved = owed cs m.events i ++ owed_soon cs m.events o; pending = drop (staying (progress cs (noted m (Hand n i b w)) i)) (net_of m.events i); backward_entries = backward_entries cs m.events i }) now'
          ∙ (ap (λ (x : Progress). record { process = i; running = entry_by cs i b w; reserved = owed cs m.events i ++ owed_by_work cs m.events i b w; pending = drop (staying x) (net_of m.events i); backward_entries = backward_entries cs m.events i }) same
          ∙ ap (λ (r : List Entry). record { process = i; running = entry_by cs i b w; reserved = r ++ owed_by_work cs m.events i b w; pending = pending_of cs m i; backward_entries = backward_entries cs m.events i })
          (sym (ap (λ o. owed cs m.events i ++ owed_soon cs m.events o) none ∙ append-nil (owed cs m.events i)))),
    )
  where
    never_both : {X : Type 0} (t : Bool) (x y : X) → cond (t && not t) x y ≡ y
    never_both true x y = refl
    never_both false x y = refl

-- At a beginning.
module _ (table : ConflictRelation) (courses : List Course) where
  -- an event at which somebody begins adds nothing to the history
  begins_events : (m : Moment) (k : Kept) (i : ℕ) → has_begun m i ≡ false → has_begun (advance table courses m k) i ≡ true → (advance table courses m k).events ≡ m.events
  begins_events m (Start j) i was is = absurd (false≢true (sym was ∙ is))
  begins_events m (Hand a b c d) i was is = absurd (false≢true (sym was ∙ is))
  begins_events m (Effect n) i was is = absurd (false≢true (sym was ∙ (sym (entered-begun table courses m (Effect n) i) ∙ is)))
  begins_events m (Refuse n) i was is = (advances table courses m (Refuse n)).events ∙ append-nil m.events
  begins_events m (Abort j) i was is = (advances table courses m (Abort j)).events ∙ append-nil m.events
  begins_events m (Victim j) i was is = (advances table courses m (Victim j)).events ∙ append-nil m.events
  begins_events m Restart i was is = (advances table courses m Restart).events ∙ append-nil m.events

pub beginnings_stop : BeginningsStop
beginnings_stop table s k i run may was is =
    let m = now table s in
    let cs = s.courses in
    let after = advance table cs m k in
    let same = begins_events table cs m k i was is in
    let r = running_by_piece k i (running_of m i) (piece_touched m.kept k) in
    let none : running_of after i ≡ None = advance-running table cs m k i (run-tidy table s run) may ∙ (ap (λ t. cond (t && not (has_begun m i)) None r) is ∙ ap (λ t. cond (not t) None r) was) in
    ap (λ (o : Option Piece). record { process = i; running = entry_of cs o; reserved = owed cs after.events i ++ owed_soon cs after.events o; pending = pending_of cs after i; backward_entries = backward_entries cs after.events i }) none
    ∙ (ap (λ (es : List Entry). record { process = i; running = None; reserved = owed cs after.events i ++ []; pending = es; backward_entries = backward_entries cs after.events i }) (begun_undo_all cs after i is)
    ∙ (ap (λ (es : List Entry). record { process = i; running = None; reserved = es; pending = backward_entries cs after.events i; backward_entries = backward_entries cs after.events i }) (append-nil (owed cs after.events i))
    ∙ ap (λ (h : List Event). record { process = i; running = None; reserved = owed cs h i; pending = backward_entries cs h i; backward_entries = backward_entries cs h i }) same))

-- At an end.
pub ends_go : EndsGo
ends_go table s n number i b found =
    let m = now table s in
    let p : Piece = record { number = number; process = i; step = b; work = End } in
    let at : piece_of (m.kept ++ Effect n ∷ []) n ≡ Some p = piece_of-plain m.kept (Effect n) n refl ∙ (ap (λ ks. piece_of ks n) (now-kept table s) ∙ found) in
    ap (λ o. active (with_piece (λ q. happened (noted m (Effect n)) (event_of s.courses q)) (noted m (Effect n)) o).events) at ∙ active-end m.events i

-- What is out runs.
pub out_runs : (m : Moment) (n : ℕ) (p : Piece) → Tidy m → runs m n ≡ true → piece_of m.kept n ≡ Some p → running_of m p.process ≡ Some p
out_runs m n p tidy is found = by_out (find (is_number n) m.out) refl (found-any (is_number n) m.out ∙ is)
  where
    of_process : Piece → Bool
    of_process x = eqb x.process p.process

    passes : (q : Piece) → running_of m p.process ≡ Some q → find (is_number n) m.out ≡ Some p → p ≡ q
    passes q run out = Each-find (λ (x : Piece). eqb x.process p.process ≡ true → x ≡ q) (is_number n) m.out p (only_found (λ (x : Piece). eqb x.process p.process) q m.out (tidy.one.one p.process) run) out (eq-eqb p.process p.process refl)

    by_running : find (is_number n) m.out ≡ Some p → (o : Option Piece) → running_of m p.process ≡ o → running_of m p.process ≡ Some p
    by_running out (Some q) run = run ∙ ap Some (sym (passes q run out))
    by_running out None run =
        absurd (false≢true (sym (Each-find (λ (x : Piece). eqb x.process p.process ≡ false) (is_number n) m.out p (none_passes m.out (sym (found-any (λ (x : Piece). eqb x.process p.process) m.out) ∙ ap is_some run)) out) ∙ eq-eqb p.process p.process refl))
      where
        none_passes : (xs : List Piece) → list_any (λ (x : Piece). eqb x.process p.process) xs ≡ false → Each (λ (x : Piece). eqb x.process p.process ≡ false) xs
        none_passes [] none = tt
        none_passes (x ∷ xs) none = let parts = or_parts (eqb x.process p.process) (list_any (λ (y : Piece). eqb y.process p.process) xs) none in (parts.0, none_passes xs parts.1)

    by_out : (o : Option Piece) → find (is_number n) m.out ≡ o → is_some o ≡ true → running_of m p.process ≡ Some p
    by_out None at some = absurd (false≢true some)
    by_out (Some q) at some =
        let same : q ≡ p = same_Some q p (sym (Each-find (IsPieceOfItsNumber m.kept) (is_number n) m.out q tidy.linked at) ∙ (ap (piece_of m.kept) (eqb-true q.number n (find-passes (is_number n) m.out q at)) ∙ found)) in
        by_running (at ∙ ap Some same) (running_of m p.process) refl

-- At an effect.
module _ (table : ConflictRelation) (courses : List Course) (m : Moment) (n : ℕ) (p : Piece) (tidy : Tidy m) (is : runs m n ≡ true) (found : piece_of m.kept n ≡ Some p) where
  abbrev after_effect : Moment
  after_effect = advance table courses m (Effect n)

  pub effect_events : after_effect.events ≡ m.events ++ event_of courses p ∷ []
  effect_events = ap (λ o. (with_piece (λ q. happened (noted m (Effect n)) (event_of courses q)) (noted m (Effect n)) o).events) (piece_of-plain m.kept (Effect n) n refl ∙ found)

  pub effect_stops : running_of after_effect p.process ≡ None
  effect_stops = ap (find (λ q. eqb q.process p.process)) (effect_out table courses m n (piece_of (m.kept ++ Effect n ∷ []) n)) ∙ find_none (λ q. eqb q.process p.process) (without n m.out) (others-out m n p tidy is found)

  pub effect_reserved : (hold_of courses after_effect p.process).reserved ≡ owed courses (m.events ++ event_of courses p ∷ []) p.process
  effect_reserved =
      ap (λ o. owed courses after_effect.events p.process ++ owed_soon courses after_effect.events o) effect_stops
      ∙ (append-nil (owed courses after_effect.events p.process) ∙ ap (λ h. owed courses h p.process) effect_events)

  pub was_reserved : (hold_of courses m p.process).reserved ≡ owed courses m.events p.process ++ owed_by_work courses m.events p.process p.step p.work
  was_reserved = ap (λ o. owed courses m.events p.process ++ owed_soon courses m.events o) (out_runs m n p tidy is found)

  pub was_running : (hold_of courses m p.process).running ≡ entry_by courses p.process p.step p.work
  was_running = ap (entry_of courses) (out_runs m n p tidy is found)

module _ (table : ConflictRelation) (plans : List Plan) (good : AreGood plans) where
  abbrev cs : List Course
  cs = courses_of plans

  pub keeps_at : (m : Moment) (n : ℕ) (p : Piece) → InOwnOrder table plans good m → runs m n ≡ true → piece_of m.kept n ≡ Some p → keeps_order cs m.events (event_of cs p) ≡ true
  keeps_at m n p own is found =
      let out = out_piece table cs m n own.order own.active is in
      let same : out.piece ≡ p = same_Some out.piece p (sym out.found ∙ found) in
      ap (λ q. keeps_order cs m.events (event_of cs q)) (sym same) ∙ piece_keeps table plans good m out.piece own out.next out.active

  pub step_takes_effect : (m : Moment) (n number i b : ℕ) → InOwnOrder table plans good m → runs m n ≡ true → piece_of m.kept n ≡ Some (record { number = number; process = i; step = b; work = Forward })
      → StepTakesEffect cs m (advance table cs m (Effect n)) i b (hold_of cs m i) (hold_of cs (advance table cs m (Effect n)) i)
  step_takes_effect m n number i b own is found =
      let p : Piece = record { number = number; process = i; step = b; work = Forward } in
      let tidy = own.order.tidy in
      let keeps = keeps_at m n p own is found in
      let facts = class-facts plans m.events i b good (and_parts (is_active m.events i && same_access (access_at cs i b) (access_at cs i b)) (goes_on cs m.events i b) keeps).1 in
      let owes = effect_reserved table cs m n p tidy is found in
      let owed_before = was_reserved table cs m n p tidy is found in
      let undo_after = ap (λ h. backward_entries cs h i) (effect_events table cs m n p tidy is found) in
      let plain : (c : StepClass) → class_in cs m.events i b ≡ c → (hold_of cs m i).reserved ≡ owed cs m.events i ++ owed_by_class c (owed_after cs m.events i b) =
      λ (c : StepClass) (class : class_in cs m.events i b ≡ c). owed_before ∙ ap (λ x. owed cs m.events i ++ owed_by_class x (owed_after cs m.events i b)) class in
      record {
        was_running = was_running table cs m n p tidy is found;
        stopped = ap (entry_of cs) (effect_stops table cs m n p tidy is found);
        owed_first = λ class. plain reserved class ∙ (append-nil (owed cs m.events i) ∙ (facts.reserved_owes class ∙ ap (λ es. doing cs i b ∷ es) (sym owes)));
        none_before = λ class. facts.reserved_before class;
        none_after = λ class. undo_after ∙ facts.reserved_after class;
        fixed = λ class. undo_after ∙ facts.committing_after class;
        owes_anew = λ class. owes ∙ facts.committing_owes class;
        was_reserved = λ class. plain committing class ∙ ap (λ es. owed cs m.events i ++ es) (sym (owes ∙ facts.committing_owes class));
        added = λ class. undo_after ∙ facts.undoable_after class;
        still_reserved = λ class. owes ∙ (facts.undoable_owes class ∙ sym (plain undoable class ∙ append-nil (owed cs m.events i)));
      }

  pub undo_takes_effect : (m : Moment) (n number i b : ℕ) → InOwnOrder table plans good m → runs m n ≡ true → piece_of m.kept n ≡ Some (record { number = number; process = i; step = b; work = Undo })
      → UndoTakesEffect cs i b (hold_of cs m i) (hold_of cs (advance table cs m (Effect n)) i)
  undo_takes_effect m n number i b own is found =
      let p : Piece = record { number = number; process = i; step = b; work = Undo } in
      let tidy = own.order.tidy in
      let e = undoing (doing cs i b) in
      let taken = undoes no_conflict cs m.events e own.legal refl (may_come-no_conflict cs m.events (Act e) (keeps_at m n p own is found)) in
      record {
        was_running = was_running table cs m n p tidy is found;
        stopped = ap (entry_of cs) (effect_stops table cs m n p tidy is found);
        still_reserved = effect_reserved table cs m n p tidy is found ∙ (taken.owed ∙ sym (was_reserved table cs m n p tidy is found ∙ append-nil (owed cs m.events i)));
        last = taken.last;
        is_its = taken.same;
        taken_back = taken.backward_entries ∙ ap (λ h. backward_entries cs h i ++ taken.last ∷ []) (sym (effect_events table cs m n p tidy is found));
      }

pub steps_take_effect : StepsTakeEffect
steps_take_effect table plans s n number i b session may found =
    let m = now table s in
    subst (λ xs. StepTakesEffect xs m (advance table xs m (Effect n)) i b (hold_of xs m i) (hold_of xs (advance table xs m (Effect n)) i)) (sym session.courses)
    (step_takes_effect table plans session.good m n number i b (session-counts table plans s session).own may (ap (λ ks. piece_of ks n) (now-kept table s) ∙ found))

pub undos_take_effect : UndosTakeEffect
undos_take_effect table plans s n number i b session may found =
    let m = now table s in
    subst (λ xs. UndoTakesEffect xs i b (hold_of xs m i) (hold_of xs (advance table xs m (Effect n)) i)) (sym session.courses)
    (undo_takes_effect table plans session.good m n number i b (session-counts table plans s session).own may (ap (λ ks. piece_of ks n) (now-kept table s) ∙ found))
