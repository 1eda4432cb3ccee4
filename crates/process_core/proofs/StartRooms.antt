-- Where there is room for a start, all that is kept of the process fits, and what is kept then stands.
use Rattle.std.proofs.Common.{◌≡◌, ◌∙◌, ℕ, ◌+◌, ◌≤◌, ◌<◌, false, List, [], ◌∷◌, ◌++◌, length, Some, None, sym, ap, subst, arith}
use Rattle.process_tree.specs.Blocks.{outline}
use Rattle.process_tree.specs.Conflicts.{operations_in}
use Rattle.process_tree.specs.Order.{Each}
use Rattle.schedule_model.specs.Laws.{IsGoodPlan}
use Rattle.machine_model.specs.Runs.{start_refusal}
use Rattle.schedule_model.specs.declared.event.Event.{Event}
use Rattle.schedule_model.specs.declared.event.Event.TheVariants.{Start as Started}
use Rattle.schedule_model.specs.Course.{course_of}
use Rattle.schedule_model.specs.Histories.{starts}
use Rattle.machine_model.specs.Calls.{start, started}
use Rattle.instance_state.specs.Instances.{opened as instance_opened}
use Rattle.hold_tables.specs.Changes.{opened}
use Rattle.hold_tables.specs.Spare.{IsRoomIn}
use Rattle.hold_tables.specs.Tables.{Tables, is_open}
use Rattle.process_core.specs.Answers.{after_start, answer_in}
use Rattle.core_state.specs.Cores.{CoreState, courses_in, moment_of}
use Rattle.core_state.specs.Room.{IsKept, kept_for}
use Rattle.core_state.specs.Seats.{SeatState}
use Rattle.process_core.specs.StartRoom.{IsRoomFor, StartRoomState}
use Rattle.core_state.proofs.SeatFacts.{seats_many}
use Rattle.process_core.proofs.StartKept.{not_open_yet, start_fits, start_kept, started_after, started_reply}
use Rattle.core_state.proofs.StartStands.{with_start}

-- there is room for what a core keeps, where it has the room that it may need
pub room_is : (c : CoreState) (h : List Event) (ss : List SeatState) (ts : Tables) (opening most capacity : ℕ) → IsKept c h ss ts opening most capacity → (r : StartRoomState)
    → IsGoodPlan r.plan → Each (λ op. op < operations_in c.conflicts) r.plan.ops → start_refusal (courses_in c) (moment_of c) (course_of r.plan) ≡ None
    → r.kept ≡ most + kept_for (course_of r.plan) → length ss < r.processes → IsRoomIn ts r.tables → IsRoomFor c r
room_is c h ss ts opening most capacity kept r good known free fits seats tables = record {
  good = good;
  known = known;
  free = free;
  kept = fits ∙ ap (λ n. n + kept_for (course_of r.plan)) kept.room;
  processes = let many = seats_many c ss kept.stands.seats in omega arith;
  tables = subst (λ t. IsRoomIn t r.tables) kept.stands.tables tables;
}

module _ (c : CoreState) (h : List Event) (ss : List SeatState) (ts : Tables) (opening most capacity : ℕ) (kept : IsKept c h ss ts opening most capacity) (r : StartRoomState) (room : IsRoomFor c r) where
  abbrev fresh : SeatState
  fresh = record { instance = Some (instance_opened r.plan []); out = None; lost = None; began = None }

  -- its kept event fits, and its event and its plan fit in the history
  pub all_fit : (length c.kept < r.kept) × (length h < 20480) × (length c.plans < 4096)
  all_fit =
      let fits = start_fits c kept.stands.core r.plan room.good room.known room.free h ss ts opening most capacity kept in
      let own = room.kept in
      let is = kept.room in
      let left = fits.0 in
      (omega arith, fits.1, fits.2)

  -- so does its seat
  pub seat_fits : length ss < r.processes
  seat_fits = let many = seats_many c ss kept.stands.seats in let more = room.processes in omega arith

  pub tables_fit : IsRoomIn ts r.tables
  tables_fit = subst (λ t. IsRoomIn t r.tables) (sym kept.stands.tables) room.tables

  module _ (n : ℕ) (count : n ≡ length ss) where
    -- its number is the next one
    pub next_number : n + 1 ≡ length (starts (moment_of c).events) + 1
    next_number = let many = seats_many c ss kept.stands.seats in let each = kept.stands.core.session.one_each in omega arith

    pub closed_yet : is_open ts (n + 1) ≡ false
    closed_yet = ap (is_open ts) next_number ∙ not_open_yet c kept.stands.core r.plan ts kept.stands.tables

    -- it stands in what is kept then
    pub kept_in_room : (after : ℕ) → r.kept ≤ after
        → IsKept (with_start c r.plan) (h ++ Started (n + 1) ∷ []) (ss ++ record { instance = Some (instance_opened r.plan []); out = None; lost = None; began = None } ∷ []) (opened (n + 1) (length (outline r.plan.tree).steps) ts) opening r.kept after
    kept_in_room after more =
        let own : most + kept_for (course_of r.plan) ≡ r.kept = ap (λ k. k + kept_for (course_of r.plan)) kept.room ∙ sym room.kept in
        subst (λ k. IsKept (with_start c r.plan) (h ++ Started k ∷ []) (ss ++ fresh ∷ []) (opened k (length (outline r.plan.tree).steps) ts) opening r.kept after) (sym next_number)
        (subst (λ k. IsKept (with_start c r.plan) (h ++ Started (length (starts (moment_of c).events) + 1) ∷ []) (ss ++ fresh ∷ []) (opened (length (starts (moment_of c).events) + 1) (length (outline r.plan.tree).steps) ts) opening k after) own
        (start_kept c kept.stands.core r.plan room.good room.known room.free h ss ts opening most capacity kept after (omega arith)))

    pub reply_in_room : (answer_in c (start (course_of r.plan))).reply ≡ started (n + 1)
    reply_in_room = started_reply c kept.stands.core r.plan room.good room.known room.free ∙ ap started (sym next_number)

  pub core_in_room : after_start c r.plan ≡ with_start c r.plan
  core_in_room = started_after c kept.stands.core r.plan room.good room.known room.free
