-- What is pending stays so as long as its process doesn't begin to complete, until it is undone.
use Rattle.std.proofs.Common.{◌≡◌, inl, inr, ⊎_elim, ℕ, zero, suc, ◌-◌, ◌≤◌, ◌<◌, Bool, true, false, not, cond, eqb, List, [], ◌∷◌, ◌++◌, length, drop, take, Option, Some, None, sym, refl, ap, subst, ◌∙◌, arith, length-append}
use Rattle.std.specs.List.{list_any}
use Rattle.std.proofs.lemmas.Option.{none-some, same_Some}
use Rattle.std.proofs.lemmas.List.{drop-map, length-map}
use Rattle.std.proofs.lemmas.List.Folds.{list_any-append}
use Rattle.std.proofs.lemmas.Bool.{and_from, and_parts, eqb-true, false≢true, or_cases}
use Rattle.process_tree.specs.declared.entry.Entry.{Entry}
use Rattle.process_tree.specs.declared.plan.Plan.{Plan}
use Rattle.process_tree.specs.Shape.{is_whole, last_of, IsBranch}
use Rattle.process_tree.proofs.TreeLaws.{whole_paths_end}
use Rattle.schedule_model.specs.declared.event.Event.{Event}
use Rattle.schedule_model.specs.Course.{Course, courses_of, shape}
use Rattle.schedule_model.specs.Conflict.{ConflictRelation, IsSymmetric, no_conflict}
use Rattle.schedule_model.specs.Histories.{is_active, net, net_of, net_steps, same_step}
use Rattle.schedule_model.specs.Laws.{AreGood}
use Rattle.schedule_model.proofs.Apart.{Apart, Apart-filter, Apart-last, net-apart}
use Rattle.schedule_model.proofs.Behind.{has_step}
use Rattle.schedule_model.proofs.GoodPlans.{good_if_goes_on}
use Rattle.schedule_model.proofs.Members.{Among, all-among, among-any, in_map}
use Rattle.schedule_model.proofs.NetPaths.{net-branch}
use Rattle.schedule_model.proofs.Started.{in_net_of}
use Rattle.machine_model.specs.declared.kept.Kept.{Kept}
use Rattle.machine_model.specs.declared.kept.Kept.TheVariants.{Start, Hand, Effect, Refuse, Abort, Victim, Restart}
use Rattle.machine_model.specs.declared.kept.Work.{Work}
use Rattle.machine_model.specs.declared.kept.Work.TheVariants.{Forward, Undo, End}
use Rattle.machine_model.specs.Progress.{Progress, is_only_try, next_forward, next_task, pending_steps, same_task, same_work, staying, undo_or}
use Rattle.machine_model.specs.ProcessState.{last_undone, past}
use Rattle.machine_model.specs.Moment.{Moment, Piece, happened, has_begun, noted}
use Rattle.machine_model.specs.Pieces.{piece_of, runs}
use Rattle.machine_model.specs.PieceLaws.{piece_ended}
use Rattle.machine_model.specs.State.{is_pending, pending_of, progress}
use Rattle.machine_model.specs.Advance.{advance, event_of, piece_refused, with_piece, work_refused}
use Rattle.machine_model.specs.Runs.{is_no_end, may_be_kept}
use Rattle.machine_model.proofs.Begun.{advance-begun}
use Rattle.machine_model.proofs.Frames.{IsOfOthers, piece_of-plain}
use Rattle.machine_model.proofs.HoldChanges.{out_runs}
use Rattle.machine_model.proofs.NextInOrder.{last_none}
use Rattle.machine_model.proofs.OwnEvents.{own-refused}
use Rattle.machine_model.proofs.OwnOrder.{InOwnOrder}
use Rattle.machine_model.proofs.PendingFree.{but_last, fixed, moved, same_pending, short_drop, taken, unmoved}
use Rattle.machine_model.proofs.ReservedFree.{ReservedFree}
use Rattle.machine_model.proofs.RunningNext.{IsNextPiece}
use Rattle.machine_model.proofs.TidyMoments.{Each-find}
use Rattle.machine_model.proofs.WaysBehind.{as_many_stay}

-- a process whose next piece isn't an undo has nothing pending
nothing_pending : (s : Progress) (w : Work) (b : ℕ) → same_task (record { work = w; step = b }) (next_task s) ≡ true → same_work w Undo ≡ false → pending_steps s ≡ []
nothing_pending s w b is no_undo = by_last (last_of (pending_steps s)) refl is
  where
    by_last : (o : Option ℕ) → last_of (pending_steps s) ≡ o → same_task (record { work = w; step = b }) (undo_or (next_forward s) o) ≡ true → pending_steps s ≡ []
    by_last (Some d) last same = absurd (false≢true (sym no_undo ∙ (and_parts (same_work w Undo) (eqb b d) same).0))
    by_last None last same = last_none (pending_steps s) last

drop_push : (n : ℕ) (xs : List Entry) (l : Entry) → n ≤ length xs → drop n (xs ++ l ∷ []) ≡ drop n xs ++ l ∷ []
drop_push zero xs l le = refl
drop_push (suc n) [] l le = absurd (omega arith)
drop_push (suc n) (x ∷ xs) l le = drop_push n xs l (omega arith)

not_never : (t : Bool) → t ≡ true → not t ≡ true → ⊥
not_never true is other = false≢true other
not_never false is other = false≢true is

module _ (table : ConflictRelation) (symmetric : IsSymmetric table) (plans : List Plan) (good : AreGood plans) where
  abbrev cs : List Course
  cs = courses_of plans

  -- without its last step, what stands of a process is no whole path
  front_not_whole : (m : Moment) (i : ℕ) → InOwnOrder table plans good m → 0 < length (net_steps m.events i) → is_whole (shape cs i) (take (length (net_steps m.events i) - 1) (net_steps m.events i)) ≡ false
  front_not_whole m i own some = by_branch (net-branch cs i m.events own.legal)
    where
      by_branch : IsBranch (shape cs i) (net_steps m.events i) → is_whole (shape cs i) (take (length (net_steps m.events i) - 1) (net_steps m.events i)) ≡ false
      by_branch (inl none) = let l = ap length none in absurd (omega arith)
      by_branch (inr (v, a, is, on)) = ap (is_whole (shape cs i)) (but_last (net_steps m.events i) v a is) ∙ by_test (is_whole (shape cs i) v) refl
        where
          by_test : (t : Bool) → is_whole (shape cs i) v ≡ t → is_whole (shape cs i) v ≡ false
          by_test false no' = no'
          by_test true whole = absurd (false≢true (sym (ap (list_any (eqb a)) (whole_paths_end (shape cs i) (good_if_goes_on plans i v a good on).tree v whole)) ∙ on))

  module _ (m : Moment) (k : Kept) (reserved : ReservedFree table symmetric plans good m) (may : may_be_kept table cs m k ≡ true) (e : Entry) where
    own : InOwnOrder table plans good m
    own = reserved.own

    -- the process of a piece has it pending
    abbrev Its : Moment → ℕ → Type 0
    Its n j = has_step e (pending_of (courses_of plans) n j) ≡ true

    some_pending : (j : ℕ) → Its m j → (y : Entry) × Among y (pending_of cs m j) × (same_step e y ≡ true)
    some_pending j is = among-any (same_step e) (pending_of cs m j) is

    module _ (q : Piece) (n : ℕ) (may' : runs m n ≡ true) (found : piece_of m.kept n ≡ Some q) (its : Its m q.process) where
      is_next : (w : Work) → q.work ≡ w → same_task (record { work = w; step = q.step }) (next_task (progress cs m q.process)) ≡ true
      is_next w work =
          let next : IsNextPiece cs m q = Each-find (IsNextPiece cs m) (λ (p : Piece). eqb p.process q.process) m.out q own.order.next (out_runs m n q own.order.tidy may' found) in
          subst (λ v. same_task (record { work = v; step = q.step }) (next_task (progress cs m q.process)) ≡ true) work next

      -- the piece is an undo
      no_other : (w : Work) → q.work ≡ w → same_work w Undo ≡ false → ⊥
      no_other w work no_undo =
          let s = progress cs m q.process in
          let y = some_pending q.process its in
          let steps = drop-map (λ (x : Entry). x.step) (staying s) (net_of m.events q.process) in
          subst (Among (y.0).step) (sym steps ∙ nothing_pending s w q.step (is_next w work) no_undo) (in_map (λ (x : Entry). x.step) y.0 (pending_of cs m q.process) y.1)

      -- it takes effect
      undone : q.work ≡ Undo → has_begun m q.process ≡ false → e.process ≡ q.process → Among e (net (m.events ++ event_of cs q ∷ [])) → Its (happened (noted m (Effect n)) (event_of cs q)) q.process
      undone work never is here = ap (λ d. has_step e (drop d (net_of h q.process))) (ap staying (moved table symmetric plans good m n q reserved may' found work) ∙ as_many) ∙ by_last
        where
          s : Progress
          s = progress (courses_of plans) m q.process

          h : List Event
          h = m.events ++ event_of (courses_of plans) q ∷ []

          last : Entry
          last = (taken table symmetric plans good m n q reserved may' found work).0

          net_is : net_of m.events q.process ≡ net_of h q.process ++ last ∷ []
          net_is = (taken table symmetric plans good m n q reserved may' found work).1

          few : staying s < length (net_of m.events q.process)
          few = let y = some_pending q.process its in short_drop y.0 (staying s) (net_of m.events q.process) y.1

          few_steps : staying s < length (net_steps m.events q.process)
          few_steps = let l = length-map (net_of m.events q.process) (λ (x : Entry). x.step) in let f = few in omega arith

          as_many : staying (last_undone s) ≡ staying s
          as_many =
              as_many_stay s (λ v b on. (good_if_goes_on plans q.process v b good on).tree) few_steps (fixed table symmetric plans good m n q reserved may' found work) never
              (front_not_whole m q.process own (let f = few_steps in omega arith))

          apart : Apart (net_of h q.process ++ last ∷ [])
          apart = subst Apart net_is (Apart-filter (λ (x : Entry). eqb x.process q.process) (net m.events) (net-apart no_conflict cs m.events own.legal))

          other : same_step e last ≡ true → ⊥
          other same = not_never (same_step e last) same (all-among (λ (f : Entry). not (same_step f last)) (net_of h q.process) (Apart-last (net_of h q.process) last apart) e (in_net_of h q.process e here is))

          split : drop (staying s) (net_of m.events q.process) ≡ drop (staying s) (net_of h q.process) ++ last ∷ []
          split =
              ap (drop (staying s)) net_is
              ∙ drop_push (staying s) (net_of h q.process) last (let a = few in let b = ap length net_is in let c = length-append (net_of h q.process) (last ∷ []) in omega arith)

          by_last : has_step e (drop (staying s) (net_of h q.process)) ≡ true
          by_last =
              ⊎_elim (λ is'. is') (λ at. absurd (⊎_elim (λ same. other same) (λ none. false≢true none) (or_cases (same_step e last) false at)))
              (or_cases (has_step e (drop (staying s) (net_of h q.process))) (has_step e (last ∷ []))
              (sym (list_any-append (same_step e) (drop (staying s) (net_of h q.process)) (last ∷ [])) ∙ (sym (ap (has_step e) split) ∙ its)))

    pub stays_pending : is_pending cs m e ≡ true → Among e (net (advance table cs m k).events) → is_active (advance table cs m k).events e.process ≡ true → has_begun (advance table cs m k) e.process ≡ false → is_pending cs (advance table cs m k) e ≡ true
    stays_pending pend here goes never = and_from (is_active (advance table cs m k).events e.process) (has_step e (pending_of cs (advance table cs m k) e.process)) goes (by_event k refl)
      where
        was : Its m e.process
        was = (and_parts (is_active m.events e.process) (has_step e (pending_of cs m e.process)) pend).1

        was_never : has_begun m e.process ≡ false
        was_never = by_test (has_begun m e.process) refl
          where
            by_test : (t : Bool) → has_begun m e.process ≡ t → has_begun m e.process ≡ false
            by_test false is = is
            by_test true is = absurd (false≢true (sym never ∙ advance-begun table cs e.process m k is))

        quiet : IsOfOthers m.kept k e.process → Its (advance table cs m k) e.process
        quiet away = ap (has_step e) (unmoved table symmetric plans good m k reserved may e.process (never ∙ sym was_never) away) ∙ was

        none_ended : (y : Kept) → k ≡ y → piece_ended m.kept y ≡ None → Its (advance table cs m k) e.process
        none_ended y event none = quiet (λ q ended. absurd (none-some q (sym none ∙ (sym (ap (piece_ended m.kept) event) ∙ ended))))

        others : (y : Kept) → k ≡ y → (q : Piece) → piece_ended m.kept y ≡ Some q → eqb q.process e.process ≡ false → Its (advance table cs m k) e.process
        others y event q found other = quiet (λ p ended. ap (λ (z : Piece). eqb z.process e.process) (same_Some p q (sym ended ∙ (ap (piece_ended m.kept) event ∙ found))) ∙ other)

        effect : (n : ℕ) → k ≡ Effect n → (o : Option Piece) → piece_of m.kept n ≡ o → Its (advance table cs m k) e.process
        effect n event None found = none_ended (Effect n) event found
        effect n event (Some q) found = by_own (eqb q.process e.process) refl
          where
            may' : runs m n ≡ true
            may' = ap (may_be_kept table cs m) (sym event) ∙ may

            by_work : (w : Work) → q.work ≡ w → q.process ≡ e.process → Its (advance table cs m k) e.process
            by_work Forward work same = absurd (no_other q n may' found (subst (Its m) (sym same) was) Forward work refl)
            by_work End work same = absurd (no_other q n may' found (subst (Its m) (sym same) was) End work refl)
            by_work Undo work same =
                let to : advance table cs m k ≡ happened (noted m (Effect n)) (event_of cs q) =
                ap (advance table cs m) event ∙ ap (λ o. with_piece (λ z. happened (noted m (Effect n)) (event_of cs z)) (noted m (Effect n)) o) (piece_of-plain m.kept (Effect n) n refl ∙ found) in
                subst (λ (o : Moment). Its o e.process) (sym to)
                (subst (Its (happened (noted m (Effect n)) (event_of cs q))) same
                (undone q n may' found (subst (Its m) (sym same) was) work (ap (has_begun m) same ∙ was_never) (sym same) (subst (λ (o : Moment). Among e (net o.events)) to here)))

            by_own : (t : Bool) → eqb q.process e.process ≡ t → Its (advance table cs m k) e.process
            by_own false other = others (Effect n) event q found other
            by_own true its = by_work q.work refl (eqb-true q.process e.process its)

        refusal : (n : ℕ) → k ≡ Refuse n → (o : Option Piece) → piece_of m.kept n ≡ o → Its (advance table cs m k) e.process
        refusal n event None found = none_ended (Refuse n) event found
        refusal n event (Some q) found = by_own (eqb q.process e.process) refl
          where
            may' : runs m n ≡ true
            may' = (and_parts (runs m n) (is_no_end (piece_of m.kept n)) (ap (may_be_kept table cs m) (sym event) ∙ may)).0

            by_work : (w : Work) → q.work ≡ w → q.process ≡ e.process → Its (advance table cs m k) e.process
            by_work Forward work same = absurd (no_other q n may' found (subst (Its m) (sym same) was) Forward work refl)
            by_work End work same = absurd (no_other q n may' found (subst (Its m) (sym same) was) End work refl)
            by_work Undo work same =
                let to : advance table cs m k ≡ noted m (Refuse n) =
                ap (advance table cs m) event ∙ (ap (with_piece (piece_refused table cs (noted m (Refuse n))) (noted m (Refuse n))) (piece_of-plain m.kept (Refuse n) n refl ∙ found)
                ∙ ap (work_refused table cs (noted m (Refuse n)) q.process q.step) work) in
                let still : progress cs (noted m (Refuse n)) q.process ≡ progress cs m q.process =
                own-refused cs m n q own.order.tidy.counted found ∙ ap (λ t. cond t (past (progress cs m q.process) q.step) (progress cs m q.process)) (ap (is_only_try (shape cs q.process) q.step) work) in
                subst (λ (o : Moment). Its o e.process) (sym to)
                (subst (Its (noted m (Refuse n))) same (ap (has_step e) (same_pending table symmetric plans good m (noted m (Refuse n)) q.process still refl) ∙ subst (Its m) (sym same) was))

            by_own : (t : Bool) → eqb q.process e.process ≡ t → Its (advance table cs m k) e.process
            by_own false other = others (Refuse n) event q found other
            by_own true its = by_work q.work refl (eqb-true q.process e.process its)

        by_event : (y : Kept) → k ≡ y → Its (advance table cs m k) e.process
        by_event (Effect n) event = effect n event (piece_of m.kept n) refl
        by_event (Refuse n) event = refusal n event (piece_of m.kept n) refl
        by_event (Start a) event = none_ended (Start a) event refl
        by_event (Hand a b c d) event = none_ended (Hand a b c d) event refl
        by_event (Abort a) event = none_ended (Abort a) event refl
        by_event (Victim a) event = none_ended (Victim a) event refl
        by_event Restart event = none_ended Restart event refl
