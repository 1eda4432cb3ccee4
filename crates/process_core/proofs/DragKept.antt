-- What is kept where others are dragged along by a process that is already as it will be.
use Rattle.std.proofs.Common.{◌≡◌, ◌∙◌, ℕ, ◌+◌, ◌≤◌, ◌<◌, true, List, [], ◌∷◌, ◌++◌, length, map, sym, ap, subst, arith}
use Rattle.std.proofs.lemmas.List.{length-map}
use Rattle.process_tree.specs.Blocks.{numbers_from}
use Rattle.process_tree.specs.Conflicts.{do_conflict}
use Rattle.process_tree.specs.Order.{Each}
use Rattle.schedule_model.specs.declared.event.Event.{Event}
use Rattle.schedule_model.specs.Course.{course_of}
use Rattle.schedule_model.specs.Histories.{is_active, is_in, of_process}
use Rattle.machine_model.specs.declared.kept.Kept.{Kept}
use Rattle.machine_model.specs.Cascade.{cascade}
use Rattle.machine_model.specs.Moment.{Moment}
use Rattle.machine_model.specs.Runs.{may_be_kept}
use Rattle.machine_model.specs.Advance.{cascade_of}
use Rattle.machine_model.proofs.RunsWithin.{runs_are_legal}
use Rattle.hold_tables.specs.Tables.{OpenProcess, Tables, holdings_of, is_open, kept_of}
use Rattle.cascade.specs.Walking.{last_entries}
use Rattle.core_state.specs.declared.beginnings.Beginners.TheVariants.{DraggedBy}
use Rattle.core_state.specs.Beginnings.{AreOpen, cause_of, seats_begun, tables_begun}
use Rattle.process_core.specs.Handing.{with_kept}
use Rattle.core_state.specs.Cores.{CoreState, IsCore, courses_in, history_of, machine_of, moment_of, relation}
use Rattle.core_state.specs.OpenTables.{tables_of}
use Rattle.core_state.specs.Room.{IsKept}
use Rattle.core_state.specs.Seats.{SeatState}
use Rattle.core_state.proofs.DraggedAlong.{IsMiddle, between, between_is, between_open, cascade_is, dragged_stands, rows_numbered, seat_between, takes_back}
use Rattle.core_state.proofs.KeptEvents.{put_together_is, put_together_stands}
use Rattle.core_state.proofs.KeptRoom.{kept_after, room_to_push}
use Rattle.core_state.proofs.SeatFacts.{length-numbers}
use Rattle.core_state.proofs.StandingFacts.{rows_open}
use Rattle.core_state.proofs.StartedProcesses.{few_start}

-- no core has more plans than processes may start
pub plans_few : (c : CoreState) → IsCore c → length c.plans ≤ 4096
plans_few c core =
    let each = core.session.one_each in
    let few = few_start (courses_in c) (history_of c) (runs_are_legal (relation c) c.plans (machine_of c) core.session).1 in
    omega arith

module _ {c : CoreState} {h : List Event} {ss : List SeatState} {ts : Tables} {opening most capacity : ℕ} (kept : IsKept c h ss ts opening most capacity) (k : Kept)
    (may : may_be_kept (relation c) (courses_in c) (moment_of c) k ≡ true) (root : ℕ) (middle : Moment) (is : IsMiddle c kept.stands.core k may root middle)
    (xs : List SeatState) (seats : xs ≡ map (seat_between c kept.stands.core k may root middle) (numbers_from 1 (length (courses_in c)))) (us : Tables) (tables : us ≡ between c kept.stands.core k may root middle) where
  then_is : us ≡ tables_of c.conflicts (courses_in c) middle
  then_is = tables ∙ between_is c kept.stands.core k may root middle is

  pub drag_root : is_open us root ≡ true
  drag_root = ap (λ (t : Tables). is_open t root) then_is ∙ rows_open c.conflicts (courses_in c) middle root (ap (λ h'. is_active h' root) is.events ∙ is.active')

  pub drag_count : (kept_of us root).pending + (kept_of us root).fixed ≤ length (of_process root us.net)
  drag_count = subst (λ (t : Tables). (kept_of t root).pending + (kept_of t root).fixed ≤ length (of_process root t.net)) (sym then_is) (takes_back c kept.stands.core k may root middle is)

  pub drag_numbers : Each (λ (r : OpenProcess). r.process ≤ 4096) us.processes
  drag_numbers = subst (λ (t : Tables). Each (λ (r : OpenProcess). r.process ≤ 4096) t.processes) (sym then_is) (rows_numbered c kept.stands.core k may root middle is (plans_few c kept.stands.core))

  pub drag_open : AreOpen xs us
  drag_open = subst (λ ys. AreOpen ys us) (sym seats) (subst (λ t. AreOpen (map (seat_between c kept.stands.core k may root middle) (numbers_from 1 (length (courses_in c)))) t) (sym tables) (between_open c kept.stands.core k may root middle is))

  pub drag_few : length xs ≤ 4096
  drag_few =
      let many = ap length seats ∙ (length-map (numbers_from 1 (length (courses_in c))) (seat_between c kept.stands.core k may root middle) ∙ (length-numbers 1 (length (courses_in c)) ∙ length-map c.plans course_of)) in
      let few = plans_few c kept.stands.core in
      omega arith

  -- there is room for the event
  pub drag_room : length c.kept < capacity
  drag_room = room_to_push c kept.stands.core k is.nobody may kept

  module _ (event : ℕ) (at : event ≡ length c.kept + 1) (members : List ℕ)
      (are : (j : ℕ) → is_in j members ≡ is_in j (cascade (do_conflict us.conflicts) (holdings_of us) root (last_entries us root (kept_of us root).pending)))
      (rs : List SeatState) (vs : Tables) (ks : List Kept) (seats' : rs ≡ seats_begun (cause_of (DraggedBy root) members) event (length xs) xs)
      (tables' : vs ≡ tables_begun (cause_of (DraggedBy root) members) xs (length xs) us) (items : ks ≡ c.kept ++ k ∷ []) where
    members_are : (j : ℕ) → is_in j members ≡ is_in j (cascade_of (relation c) (courses_in c) middle root)
    members_are j =
        are j
        ∙ (ap (λ (t : Tables). is_in j (cascade (do_conflict t.conflicts) (holdings_of t) root (last_entries t root (kept_of t root).pending))) then_is
        ∙ ap (is_in j) (cascade_is c kept.stands.core k may root middle is))

    stands : IsKept (with_kept c k) h (seats_begun (cause_of (DraggedBy root) members) (length c.kept + 1) (length xs) xs) (tables_begun (cause_of (DraggedBy root) members) xs (length xs) us) opening most capacity
    stands = kept_after c kept.stands.core k is.nobody may kept (dragged_stands c kept.stands.core k may root middle is members members_are h xs us kept.stands.events seats tables)

    seats_are : rs ≡ seats_begun (cause_of (DraggedBy root) members) (length c.kept + 1) (length xs) xs
    seats_are = seats' ∙ ap (λ n. seats_begun (cause_of (DraggedBy root) members) n (length xs) xs) at

    pub drag_stands : (room : ℕ) → room ≡ capacity → IsKept (record { conflicts = vs.conflicts; plans = c.plans; opening = c.opening; kept = ks; served = c.served }) h rs vs opening most room
    drag_stands room same = put_together_stands c k h (seats_begun (cause_of (DraggedBy root) members) (length c.kept + 1) (length xs) xs) (tables_begun (cause_of (DraggedBy root) members) xs (length xs) us) opening most capacity stands rs vs ks room seats_are tables' items same

    pub drag_is : record { conflicts = vs.conflicts; plans = c.plans; opening = c.opening; kept = ks; served = c.served } ≡ with_kept c k
    drag_is = put_together_is c k h (seats_begun (cause_of (DraggedBy root) members) (length c.kept + 1) (length xs) xs) (tables_begun (cause_of (DraggedBy root) members) xs (length xs) us) opening most capacity stands rs vs ks capacity seats_are tables' items

-- All that is asked of the seats and the tables where others are dragged along, and what comes of it.
pub record CanDrag (c : CoreState) (h : List Event) (opening most capacity : ℕ) (k : Kept) (root : ℕ) (xs : List SeatState) (us : Tables) : Type 0 where
  pub root_open : is_open us root ≡ true
  pub count : (kept_of us root).pending + (kept_of us root).fixed ≤ length (of_process root us.net)
  pub numbers : Each (λ (r : OpenProcess). r.process ≤ 4096) us.processes
  pub all_open : AreOpen xs us
  pub few : length xs ≤ 4096
  pub room : length c.kept < capacity
  pub stands : (event : ℕ) → event ≡ length c.kept + 1 → (members : List ℕ)
      → ((j : ℕ) → is_in j members ≡ is_in j (cascade (do_conflict us.conflicts) (holdings_of us) root (last_entries us root (kept_of us root).pending)))
      → (rs : List SeatState) (vs : Tables) (ks : List Kept) → rs ≡ seats_begun (cause_of (DraggedBy root) members) event (length xs) xs
      → vs ≡ tables_begun (cause_of (DraggedBy root) members) xs (length xs) us → ks ≡ c.kept ++ k ∷ []
      → ((n : ℕ) → n ≡ capacity → IsKept (record { conflicts = vs.conflicts; plans = c.plans; opening = c.opening; kept = ks; served = c.served }) h rs vs opening most n)
      × (record { conflicts = vs.conflicts; plans = c.plans; opening = c.opening; kept = ks; served = c.served } ≡ with_kept c k)

pub can_drag : {c : CoreState} {h : List Event} {ss : List SeatState} {ts : Tables} {opening most capacity : ℕ} (kept : IsKept c h ss ts opening most capacity) (k : Kept)
    (may : may_be_kept (relation c) (courses_in c) (moment_of c) k ≡ true) (root : ℕ) (middle : Moment) → IsMiddle c kept.stands.core k may root middle
    → (xs : List SeatState) → xs ≡ map (seat_between c kept.stands.core k may root middle) (numbers_from 1 (length (courses_in c)))
    → (us : Tables) → us ≡ between c kept.stands.core k may root middle → CanDrag c h opening most capacity k root xs us
can_drag kept k may root middle is xs seats us tables = record {
  root_open = drag_root kept k may root middle is xs seats us tables;
  count = drag_count kept k may root middle is xs seats us tables;
  numbers = drag_numbers kept k may root middle is xs seats us tables;
  all_open = drag_open kept k may root middle is xs seats us tables;
  few = drag_few kept k may root middle is xs seats us tables;
  room = drag_room kept k may root middle is xs seats us tables;
  stands = λ event at members are rs vs ks seats' tables' items.
      (drag_stands kept k may root middle is xs seats us tables event at members are rs vs ks seats' tables' items, drag_is kept k may root middle is xs seats us tables event at members are rs vs ks seats' tables' items);
}
