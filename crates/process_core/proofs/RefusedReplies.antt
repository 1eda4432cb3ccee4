-- That a piece that is out may be refused, and what is answered.
use Rattle.std.proofs.Common.{◌≡◌, ◌∙◌, ℕ, ◌+◌, ◌≤◌, Bool, true, false, not, eqb, leb, ltb, ◌&&◌, if◌then◌else◌, List, [], ◌∷◌, ◌++◌, Option, Some, None, sym, refl, ap, arith}
use Rattle.std.proofs.lemmas.Bool.{and_from, eq-eqb, false≢true, leb-true}
use Rattle.std.proofs.lemmas.Option.{none-some}
use Rattle.process_tree.specs.declared.play.Outcome.TheVariants.{Refused}
use Rattle.schedule_model.specs.Course.{Course, course, shape}
use Rattle.machine_model.specs.declared.kept.Kept.TheVariants.{Refuse}
use Rattle.machine_model.specs.declared.kept.Work.{Work}
use Rattle.machine_model.specs.declared.kept.Work.TheVariants.{End, Forward, Undo}
use Rattle.machine_model.specs.declared.replies.PieceState.TheVariants.{Out}
use Rattle.machine_model.specs.declared.replies.Refusal.TheVariants.{Alternative, Exhausted as NoOtherTry, Retry, RollBack}
use Rattle.machine_model.specs.declared.replies.Todo.{Todo}
use Rattle.machine_model.specs.declared.replies.Todo.TheVariants.{Exhausted as NoPiece}
use Rattle.machine_model.specs.Calls.{finish}
use Rattle.machine_model.specs.Moment.{Moment, Piece, has_begun}
use Rattle.machine_model.specs.Pieces.{is_try_of, piece_of, refusals, runs, state_of}
use Rattle.machine_model.specs.ProcessState.{ProcessState, allowance_in, are_used_up, next_piece, refusal, refusal_by, told_task, todo, tries_in, was_refused}
use Rattle.machine_model.specs.Progress.{is_only_try, same_work}
use Rattle.machine_model.specs.Replies.{Finish, finish_by, finish_kept, finish_piece, finish_reply, out_finish, refusal_reply, refused, refused_unless_end}
use Rattle.machine_model.specs.State.{process_state}
use Rattle.machine_model.specs.Advance.{advance}
use Rattle.machine_model.specs.Runs.{is_no_end, may_be_kept}
use Rattle.machine_model.proofs.CallsKept.{same_work-itself}
use Rattle.machine_model.proofs.Snoc.{advances, now-kept}
use Rattle.machine_model.proofs.StateSteps.{refused_once_more}
use Rattle.machine_model.proofs.TidyMoments.{run-tidy}
use Rattle.machine_model.proofs.WithinTries.{refusals_are_within_tries}
use Rattle.instance_state.specs.Instances.{is_piece}
use Rattle.process_core.specs.Answers.{after_call}
use Rattle.core_state.specs.Beginnings.{drags_along}
use Rattle.process_core.specs.Handing.{with_kept}
use Rattle.core_state.specs.Cores.{CoreState, IsCore, courses_in, machine_of, moment_of, relation}
use Rattle.process_core.proofs.CoreEffects.{takes_effect}
use Rattle.core_state.proofs.HandStands.{core_kept, with_event}
use Rattle.core_state.proofs.RefusedOwn.{refused_next}
use Rattle.core_state.proofs.RefusedSeat.{refusal_is, refused_again, untried}

module _ (c : CoreState) (d : Piece) (found : piece_of c.kept d.number ≡ Some d) (out : state_of (moment_of c) d.number ≡ Out) (no_end : same_work d.work End ≡ false) where
  abbrev m : Moment
  m = moment_of c

  found_now : piece_of m.kept d.number ≡ Some d
  found_now = ap (λ ks. piece_of ks d.number) (now-kept (relation c) (machine_of c)) ∙ found

  -- it may be refused
  pub refused_may : may_be_kept (relation c) (courses_in c) (moment_of c) (Refuse d.number) ≡ true
  refused_may = and_from (runs m d.number) (is_no_end (piece_of m.kept d.number)) (takes_effect c d found out) (ap is_no_end found_now ∙ ap not no_end)

  refused_reply : finish_reply (relation c) (courses_in c) m d.number Refused ≡ refused (refusal_reply (courses_in c) (advance (relation c) (courses_in c) m (Refuse d.number)) d)
  refused_reply =
      ap (finish_piece (relation c) (courses_in c) m Refused) found_now
      ∙ (ap (finish_by (out_finish (relation c) (courses_in c) m d Refused)) out ∙ ap (refused_unless_end (relation c) (courses_in c) m d) no_end)

  refused_core : Finish → CoreState
  refused_core r = record { conflicts = c.conflicts; plans = c.plans; opening = c.opening; kept = c.kept ++ finish_kept d.number r; served = c.served }

  -- the core after it
  pub refused_after : with_kept c (Refuse d.number) ≡ after_call c (finish d.number Refused)
  unfolding refused_core
  refused_after = sym (ap refused_core refused_reply)

  module _ (core : IsCore c) where
    abbrev cs : List Course
    cs = courses_in c

    abbrev root : ℕ
    root = d.process

    abbrev s : ProcessState
    s = process_state (courses_in c) (moment_of c) d.process

    abbrev after : Moment
    after = advance (relation c) (courses_in c) (moment_of c) (Refuse d.number)

    next : (d.work ≡ (next_piece s).work) × (d.step ≡ (next_piece s).step)
    next = refused_next c core d found refused_may

    -- its process was refused once more
    once_more : refusals after.kept root d.step d.work ≡ s.refused + 1
    once_more =
        let is_its : is_try_of root d.step d.work d ≡ true =
        and_from (eqb root root && eqb d.step d.step) (same_work d.work d.work) (and_from (eqb root root) (eqb d.step d.step) (eq-eqb root root refl) (eq-eqb d.step d.step refl)) (same_work-itself d.work) in
        ap (λ ks. refusals ks root d.step d.work) (advances (relation c) cs m (Refuse d.number)).kept
        ∙ (refused_once_more m d.number d (is_try_of root d.step d.work) (run-tidy (relation c) (machine_of c) core.session.run).counted (takes_effect c d found out) found_now is_its
        ∙ ap (λ n. n + 1) (ap (λ b. refusals m.kept root b d.work) next.1 ∙ ap (λ w. refusals m.kept root (next_piece s).step w) next.0))

    within : (tries : ℕ) → tries_in (course cs root) d.step d.work ≡ Some tries → s.refused + 1 ≤ tries
    within tries is =
        let most = refusals_are_within_tries (relation c) (machine_of (with_event c (Refuse d.number))) root d.step d.work tries (core_kept c core (Refuse d.number) refl refused_may).session.run is in
        let same = ap (λ ks. refusals ks root d.step d.work) ((advances (relation c) cs m (Refuse d.number)).kept ∙ ap (λ ks. ks ++ Refuse d.number ∷ []) (now-kept (relation c) (machine_of c))) in
        let more = once_more in
        omega arith

    left : (o : Option ℕ) → tries_in (course cs root) d.step d.work ≡ o → are_used_up o s.refused ≡ false
    left None is = refl
    left (Some tries) is = by_test (leb tries s.refused) refl
      where
        by_test : (t : Bool) → leb tries s.refused ≡ t → leb tries s.refused ≡ false
        by_test false at = at
        by_test true at = let low = leb-true tries s.refused at in let high = within tries is in absurd (omega arith)

    told : (w : Work) (b : ℕ) → same_work w End ≡ false → is_piece (told_task w b) ≡ true
    told Forward b not_end = refl
    told Undo b not_end = refl
    told End b not_end = absurd (false≢true (sym not_end))

    -- its process has a piece to be refused
    pub refused_piece : is_piece (todo (course (courses_in c) d.process) (process_state (courses_in c) (moment_of c) d.process)) ≡ true
    refused_piece =
        ap (λ t. is_piece (if t then used_up else told_task (next_piece s).work (next_piece s).step))
        (ap (λ b. are_used_up (tries_in (course cs root) b (next_piece s).work) s.refused) (sym next.1)
        ∙ (ap (λ w. are_used_up (tries_in (course cs root) d.step w) s.refused) (sym next.0) ∙ left (tries_in (course cs root) d.step d.work) refl))
        ∙ told (next_piece s).work (next_piece s).step (ap (λ w. same_work w End) (sym next.0) ∙ no_end)
      where
        used_up : Todo
        used_up = NoPiece (next_piece s).step

    -- what is answered is what the seat tells
    told_by : (o : Option ℕ) → tries_in (course cs root) d.step d.work ≡ o
        → refusal_by (tries_in (course cs root) d.step d.work) (was_refused s).refused (has_begun after root) ≡ refusal_by (tries_in (course cs root) d.step d.work) (refusals after.kept root d.step d.work) (has_begun after root)
    told_by None is = ap (λ o. refusal_by o (was_refused s).refused (has_begun after root)) is ∙ sym (ap (λ o. refusal_by o (refusals after.kept root d.step d.work) (has_begun after root)) is)
    told_by (Some tries) is = by_try (is_only_try (shape cs root) d.step d.work) refl
      where
        by_try : (t : Bool) → is_only_try (shape cs root) d.step d.work ≡ t
            → refusal_by (tries_in (course cs root) d.step d.work) (was_refused s).refused (has_begun after root) ≡ refusal_by (tries_in (course cs root) d.step d.work) (refusals after.kept root d.step d.work) (has_begun after root)
        by_try true only = absurd (none-some tries (sym (untried c core d found refused_may only) ∙ is))
        by_try false other = ap (λ n. refusal_by (tries_in (course cs root) d.step d.work) n (has_begun after root)) (refused_again c core d found refused_may other ∙ sym once_more)

    pub refused_told : refused (refusal (course (courses_in c) d.process) (process_state (courses_in c) (moment_of c) d.process)) ≡ finish_reply (relation c) (courses_in c) (moment_of c) d.number Refused
    refused_told = ap refused (refusal_is c core d found refused_may ∙ told_by (tries_in (course cs root) d.step d.work) refl) ∙ sym refused_reply

    tries_of : is_only_try (shape cs root) d.step d.work ≡ false → (tries : ℕ) × (tries_in (course cs root) d.step d.work ≡ Some tries)
    tries_of other = by_work d.work other no_end
      where
        by_work : (w : Work) → is_only_try (shape cs root) d.step w ≡ false → same_work w End ≡ false → (tries : ℕ) × (tries_in (course cs root) d.step w ≡ Some tries)
        by_work Forward is not_end = ((allowance_in (course cs root) d.step).tries, ap (λ t. if t then None else Some (allowance_in (course cs root) d.step).tries) is)
        by_work Undo is not_end = ((allowance_in (course cs root) d.step).undo_tries, refl)
        by_work End is not_end = absurd (false≢true (sym not_end))

    -- others may go back with its process exactly where it was the one try of a step
    pub drags_told : drags_along (refusal (course (courses_in c) d.process) (process_state (courses_in c) (moment_of c) d.process)) ≡ is_only_try (shape (courses_in c) d.process) d.step d.work
    drags_told = ap drags_along (refusal_is c core d found refused_may) ∙ by_try (is_only_try (shape cs root) d.step d.work) refl
      where
        none_drags : (b : Bool) → drags_along (if b then RollBack else Alternative) ≡ true
        none_drags true = refl
        none_drags false = refl

        some_drags : (n : ℕ) (b : Bool) → drags_along (if b then Retry n else NoOtherTry) ≡ false
        some_drags n true = refl
        some_drags n false = refl

        by_try : (t : Bool) → is_only_try (shape cs root) d.step d.work ≡ t
            → drags_along (refusal_by (tries_in (course cs root) d.step d.work) (was_refused s).refused (has_begun after root)) ≡ is_only_try (shape cs root) d.step d.work
        by_try true only = ap (λ o. drags_along (refusal_by o (was_refused s).refused (has_begun after root))) (untried c core d found refused_may only) ∙ (none_drags (has_begun after root) ∙ sym only)
        by_try false other =
            let tries = tries_of other in
            ap (λ o. drags_along (refusal_by o (was_refused s).refused (has_begun after root))) tries.1 ∙ (some_drags (was_refused s).refused (ltb (was_refused s).refused tries.0) ∙ sym other)
