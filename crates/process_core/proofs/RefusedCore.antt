-- What a core has of a piece that is refused, and what it keeps and answers.
use Rattle.std.proofs.Common.{◌≡◌, ◌∙◌, ℕ, ◌+◌, ◌-◌, ◌≤◌, ◌<◌, true, false, if◌then◌else◌, List, [], ◌∷◌, ◌++◌, length, slice_index_or, slice_set, Some, None, is_some, IfSome, sym, ap, subst}
use Rattle.process_tree.specs.declared.play.Outcome.TheVariants.{Refused}
use Rattle.schedule_model.specs.declared.event.Event.{Event}
use Rattle.schedule_model.specs.Course.{course, shape}
use Rattle.schedule_model.specs.Histories.{is_active}
use Rattle.machine_model.specs.declared.kept.Kept.{Kept}
use Rattle.machine_model.specs.declared.kept.Kept.TheVariants.{Refuse}
use Rattle.machine_model.specs.declared.kept.Work.TheVariants.{End}
use Rattle.machine_model.specs.declared.replies.PieceState.TheVariants.{Out}
use Rattle.machine_model.specs.declared.replies.Refusal.{Refusal}
use Rattle.machine_model.specs.Calls.{finish, finished}
use Rattle.machine_model.specs.Moment.{Piece}
use Rattle.machine_model.specs.Pieces.{piece_of, state_of}
use Rattle.machine_model.specs.ProcessState.{refusal, todo}
use Rattle.machine_model.specs.Progress.{is_only_try, same_work}
use Rattle.machine_model.specs.Replies.{finish_reply, refused}
use Rattle.machine_model.specs.Runs.{may_be_kept}
use Rattle.machine_model.specs.State.{process_state}
use Rattle.instance_state.specs.Instances.{InstanceState, is_piece}
use Rattle.hold_tables.specs.Changes.{changed}
use Rattle.hold_tables.specs.Tables.{Tables, is_open}
use Rattle.process_core.specs.Answers.{after_call}
use Rattle.core_state.specs.Beginnings.{drags_along, refusal_of, refused_row, refused_seat}
use Rattle.process_core.specs.Handing.{with_kept}
use Rattle.core_state.specs.Cores.{CoreState, courses_in, moment_of, relation}
use Rattle.core_state.specs.Room.{IsKept}
use Rattle.core_state.specs.Seats.{SeatState}
use Rattle.process_core.proofs.BackKept.{row_there, seat_active, seat_there, seat_told}
use Rattle.process_core.proofs.DragKept.{CanDrag}
use Rattle.process_core.proofs.RefusedKept.{refused_alone, refused_drags, refused_room}
use Rattle.core_state.proofs.RefusedOwn.{refused_active}
use Rattle.process_core.proofs.RefusedReplies.{drags_told, refused_after, refused_may, refused_piece, refused_told}

-- What is kept where no other process goes back, and the core then.
pub record StandsAlone (c : CoreState) (h : List Event) (opening most capacity : ℕ) (k : Kept) (rs : List SeatState) (us : Tables) : Type 0 where
  pub stands : (ks : List Kept) → ks ≡ c.kept ++ k ∷ []
      → ((n : ℕ) → n ≡ capacity → IsKept (record { conflicts = us.conflicts; plans = c.plans; opening = c.opening; kept = ks; served = c.served }) h rs us opening most n)
      × (record { conflicts = us.conflicts; plans = c.plans; opening = c.opening; kept = ks; served = c.served } ≡ with_kept c k)

module _ {c : CoreState} {h : List Event} {ss : List SeatState} {ts : Tables} {opening most capacity : ℕ} (kept : IsKept c h ss ts opening most capacity) (v : CoreState) (view : c ≡ v)
    (d : Piece) (handed : piece_of v.kept d.number ≡ Some d) (gone : state_of (moment_of v) d.number ≡ Out) (no_end : same_work d.work End ≡ false) where
  found : piece_of c.kept d.number ≡ Some d
  found = subst (λ (x : CoreState). piece_of x.kept d.number ≡ Some d) (sym view) handed

  out : state_of (moment_of c) d.number ≡ Out
  out = subst (λ x. state_of (moment_of x) d.number ≡ Out) (sym view) gone

  may : may_be_kept (relation c) (courses_in c) (moment_of c) (Refuse d.number) ≡ true
  may = refused_may c d found out no_end

  active' : is_active (moment_of c).events d.process ≡ true
  active' = refused_active c kept.stands.core d found may

  -- its process has a seat, and is open
  pub core_seat : (1 ≤ d.process) × (d.process ≤ length ss)
  core_seat = seat_there kept d.process active'

  pub core_open : is_open ts d.process ≡ true
  core_open = row_there kept d.process active'

  -- the core after the call
  pub core_after : with_kept c (Refuse d.number) ≡ after_call v (finish d.number Refused)
  core_after = refused_after c d found out no_end ∙ ap (λ x. after_call x (finish d.number Refused)) view

  module _ (s : SeatState) (there : s ≡ slice_index_or ss (d.process - 1) s) where
    its : InstanceState
    its = record { course = course (courses_in c) d.process; state = process_state (courses_in c) (moment_of c) d.process }

    instance_is : s.instance ≡ Some (record { course = course (courses_in c) d.process; state = process_state (courses_in c) (moment_of c) d.process })
    instance_is =
        ap (λ (x : SeatState). x.instance) (seat_told kept d.process active' s there)
        ∙ ap (λ t. if t then Some (record { course = course (courses_in c) d.process; state = process_state (courses_in c) (moment_of c) d.process }) else None) active'

    -- its seat has a piece to be refused
    pub core_active : is_some s.instance ≡ true
    core_active = seat_active kept d.process active' s there

    pub core_piece : IfSome s.instance (λ (x : InstanceState). is_piece (todo x.course x.state) ≡ true)
    core_piece = subst (λ o. IfSome o (λ (x : InstanceState). is_piece (todo x.course x.state) ≡ true)) (sym instance_is) (refused_piece c d found out no_end kept.stands.core)

    module _ (r : Refusal) (tells : r ≡ refusal_of s.instance) where
      led : r ≡ refusal (course (courses_in c) d.process) (process_state (courses_in c) (moment_of c) d.process)
      led = tells ∙ ap refusal_of instance_is

      -- what is answered
      pub core_answer : finished (refused r) ≡ finished (finish_reply (relation v) (courses_in v) (moment_of v) d.number Refused)
      core_answer =
          ap (λ x. finished (refused x)) led
          ∙ (ap finished (refused_told c d found out no_end kept.stands.core) ∙ ap (λ x. finished (finish_reply (relation x) (courses_in x) (moment_of x) d.number Refused)) view)

      only : drags_along r ≡ is_only_try (shape (courses_in c) d.process) d.step d.work
      only = ap drags_along led ∙ drags_told c d found out no_end kept.stands.core

      module _ (event : ℕ) (at : event ≡ length c.kept + 1) (new : SeatState) (is : new ≡ refused_seat event d.step s) (us : Tables) (are : us ≡ changed (refused_row s) d.process ts) where
        pub core_room : length c.kept < capacity
        core_room = refused_room kept d found may event at s there new is us are

        -- what is kept where others may go back, and where none does
        pub core_drags : drags_along r ≡ true → CanDrag c h opening most capacity (Refuse d.number) d.process (slice_set ss (d.process - 1) new) us
        core_drags drags = refused_drags kept d found may event at s there new is us are (sym only ∙ drags)

        pub core_alone : drags_along r ≡ false → StandsAlone c h opening most capacity (Refuse d.number) (slice_set ss (d.process - 1) new) us
        core_alone none = record { stands = refused_alone kept d found may event at s there new is us are (sym only ∙ none) }
