-- What is kept after the refusal of a piece.
use Rattle.std.proofs.Common.{◌≡◌, ◌∙◌, ℕ, ◌+◌, ◌-◌, ◌<◌, true, false, not, List, [], ◌∷◌, ◌++◌, length, filter, map, slice_index_or, slice_set, Some, sym, refl, ap, append-nil, arith}
use Rattle.std.proofs.lemmas.Bool.{and_parts}
use Rattle.std.proofs.lemmas.List.{length-map}
use Rattle.process_tree.specs.declared.entry.Entry.{Entry}
use Rattle.schedule_model.specs.declared.event.Event.{Event}
use Rattle.schedule_model.specs.Course.{Course, course_of, shape}
use Rattle.schedule_model.specs.Histories.{active, ends, is_in, net, starts}
use Rattle.schedule_model.specs.Holdings.{active_net}
use Rattle.schedule_model.proofs.Active.{is_active-is_in}
use Rattle.machine_model.specs.declared.kept.Kept.{Kept}
use Rattle.machine_model.specs.declared.kept.Kept.TheVariants.{Refuse}
use Rattle.machine_model.specs.CauseLaws.{after_refusal}
use Rattle.machine_model.specs.Moment.{Moment, Piece, has_begun, noted}
use Rattle.machine_model.specs.Pieces.{piece_of}
use Rattle.machine_model.specs.Progress.{is_only_try}
use Rattle.machine_model.specs.State.{holdings}
use Rattle.machine_model.specs.Advance.{advance}
use Rattle.machine_model.specs.Runs.{may_be_kept}
use Rattle.machine_model.proofs.OpenHoldings.{holders-active}
use Rattle.machine_model.proofs.Snoc.{advances}
use Rattle.hold_tables.specs.Changes.{changed}
use Rattle.hold_tables.specs.Tables.{Tables}
use Rattle.core_state.specs.Beginnings.{refused_row, refused_seat}
use Rattle.process_core.specs.Handing.{with_kept}
use Rattle.core_state.specs.Cores.{CoreState, IsCore, courses_in, moment_of, relation}
use Rattle.core_state.specs.OpenTables.{row_of, tables_of}
use Rattle.core_state.specs.Room.{IsKept}
use Rattle.core_state.specs.Seats.{SeatState, Stands, seat_of, seats_of}
use Rattle.process_core.proofs.BackKept.{seat_told}
use Rattle.core_state.proofs.BegunRestart.{active_apart}
use Rattle.process_core.proofs.DragKept.{CanDrag, can_drag}
use Rattle.core_state.proofs.DraggedAlong.{seats_between, tables_between}
use Rattle.core_state.proofs.HandStands.{core_kept, moment_kept, with_event}
use Rattle.core_state.proofs.KeptEvents.{put_together_is, put_together_stands}
use Rattle.core_state.proofs.KeptRoom.{kept_after, room_to_push}
use Rattle.core_state.proofs.RefusedOwn.{refused_active, refused_away, refused_middle, tried_again}
use Rattle.core_state.proofs.RefusedSeat.{refused_row_is, refused_seat_is}
use Rattle.core_state.proofs.SeatFacts.{has_plan}
use Rattle.core_state.proofs.SeatFrames.{row_frame, seat_frame}
use Rattle.core_state.proofs.SeatLists.{seat_changed}
use Rattle.core_state.proofs.StoodRows.{rows_changed}

module _ {c : CoreState} {h : List Event} {ss : List SeatState} {ts : Tables} {opening most capacity : ℕ} (kept : IsKept c h ss ts opening most capacity) (d : Piece)
    (found : piece_of c.kept d.number ≡ Some d) (may : may_be_kept (relation c) (courses_in c) (moment_of c) (Refuse d.number) ≡ true) (event : ℕ) (at : event ≡ length c.kept + 1)
    (s : SeatState) (there : s ≡ slice_index_or ss (d.process - 1) s) (new : SeatState) (is : new ≡ refused_seat event d.step s) (us : Tables) (are : us ≡ changed (refused_row s) d.process ts) where
  abbrev core : IsCore c
  core = kept.stands.core

  abbrev cs : List Course
  cs = courses_in c

  abbrev m : Moment
  m = moment_of c

  abbrev k : Kept
  k = Refuse d.number

  abbrev root : ℕ
  root = d.process

  abbrev after : Moment
  after = advance (relation c) (courses_in c) (moment_of c) (Refuse d.number)

  its : s ≡ seat_of cs m root
  its = seat_told kept root (refused_active c core d found may) s there

  new_is : new ≡ seat_of cs after root
  new_is = is ∙ (ap (λ e. refused_seat e d.step s) at ∙ (ap (refused_seat (length c.kept + 1) d.step) its ∙ refused_seat_is c core d found may))

  changed_is : us ≡ changed (refused_row (seat_of cs m root)) root ts
  changed_is = are ∙ ap (λ x. changed (refused_row x) root ts) its

  -- there is room for the event
  pub refused_room : length c.kept < capacity
  refused_room = room_to_push c core k refl may kept

  -- where it was the one try of a step, others may be dragged along
  pub refused_drags : is_only_try (shape (courses_in c) d.process) d.step d.work ≡ true → CanDrag c h opening most capacity (Refuse d.number) d.process (slice_set ss (d.process - 1) new) us
  refused_drags only =
      let middle = after_refusal cs (noted m k) d in
      let is_middle = refused_middle c core d found may only in
      can_drag kept k may root middle is_middle (slice_set ss (root - 1) new) (seats_between c core k may root middle is_middle ss new kept.stands.seats new_is)
      us (changed_is ∙ tables_between c core k may root middle is_middle (refused_row (seat_of cs m root)) ts kept.stands.tables (refused_row_is c core d found may))

  module _ (other : is_only_try (shape (courses_in c) d.process) d.step d.work ≡ false) where
    same_begun : (j : ℕ) → has_begun after j ≡ has_begun m j
    same_begun j = ap (λ o. has_begun o j) (tried_again c core d found may other)

    still : after.events ≡ m.events
    still = (advances (relation c) cs m k).events ∙ append-nil m.events

    seats_now : slice_set ss (root - 1) new ≡ seats_of cs after
    seats_now =
        let bounds = has_plan c core root (and_parts (is_in root (starts m.events)) (not (is_in root (ends m.events))) (refused_active c core d found may)).0 in
        let low = bounds.0 in
        let high = bounds.1 in
        let many = length-map c.plans course_of in
        ap (λ xs. slice_set xs (root - 1) new) kept.stands.seats
        ∙ (ap (slice_set (seats_of cs m) (root - 1)) new_is
        ∙ seat_changed c core after root low (omega arith) (λ j started away. sym (seat_frame c core k may j (refused_away c core d found may j away) started (same_begun j))))

    tables_now : us ≡ tables_of c.conflicts cs after
    tables_now =
        changed_is
        ∙ (ap (changed (refused_row (seat_of cs m root)) root) kept.stands.tables
        ∙ (ap (λ rs. record { conflicts = c.conflicts; net = active_net (holdings cs m); processes = rs })
        (rows_changed (refused_row (seat_of cs m root)) (row_of cs m) (row_of cs after) root (active m.events) (active_apart c core) (λ j. refl) (refused_row_is c core d found may)
        (λ j away. sym (row_frame c core k may j (refused_away c core d found may j away) (same_begun j))) (is_active-is_in m.events root ∙ refused_active c core d found may))
        ∙ (ap (λ is'. record { conflicts = c.conflicts; net = filter (λ (e : Entry). is_in e.process is') (net m.events); processes = map (row_of cs after) (active m.events) }) (holders-active cs m)
        ∙ (ap (λ h'. record { conflicts = c.conflicts; net = filter (λ (e : Entry). is_in e.process (active h')) (net h'); processes = map (row_of cs after) (active h') }) (sym still)
        ∙ ap (λ is'. record { conflicts = c.conflicts; net = filter (λ (e : Entry). is_in e.process is') (net after.events); processes = map (row_of cs after) (active after.events) }) (sym (holders-active cs after))))))

    stands : Stands (with_event c k) h (slice_set ss (root - 1) new) us
    stands =
        let moment = moment_kept c core k refl may in
        record {
          core = core_kept c core k refl may;
          events = ap (λ (o : Moment). o.events) moment ∙ (still ∙ kept.stands.events);
          seats = seats_now ∙ sym (ap (seats_of cs) moment);
          tables = tables_now ∙ sym (ap (tables_of c.conflicts cs) moment);
        }

    -- and where it is tried again, nothing else changes
    pub refused_alone : (ks : List Kept) → ks ≡ c.kept ++ Refuse d.number ∷ []
        → ((n : ℕ) → n ≡ capacity → IsKept (record { conflicts = us.conflicts; plans = c.plans; opening = c.opening; kept = ks; served = c.served }) h (slice_set ss (d.process - 1) new) us opening most n)
        × (record { conflicts = us.conflicts; plans = c.plans; opening = c.opening; kept = ks; served = c.served } ≡ with_kept c (Refuse d.number))
    refused_alone ks items =
        let now = kept_after c core k refl may kept stands in
        let xs = slice_set ss (root - 1) new in
        (λ n same. put_together_stands c k h xs us opening most capacity now xs us ks n refl refl items same, put_together_is c k h xs us opening most capacity now xs us ks capacity refl refl items)
