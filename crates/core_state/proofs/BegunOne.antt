-- What it makes of the seat and the row of a process that it begins to complete.
use Rattle.std.proofs.Common.{◌≡◌, ℕ, ◌+◌, true, false, not, ◌&&◌, if◌then◌else◌, List, ◌++◌, length, take, Option, Some, None, sym, refl, ap, ◌∙◌, arith}
use Rattle.std.specs.Option.{option_map}
use Rattle.std.proofs.lemmas.Bool.{and_parts}
use Rattle.std.proofs.lemmas.List.{length-drop, length-map, map-append}
use Rattle.std.proofs.Math.Seq.{take-append_seam}
use Rattle.process_tree.specs.declared.entry.Entry.{Entry}
use Rattle.process_tree.specs.Recovery.{forward}
use Rattle.process_tree.specs.Shape.{fixed_len}
use Rattle.schedule_model.specs.Course.{Course, course, shape}
use Rattle.schedule_model.specs.Histories.{doing, ends, is_active, is_in, net_of, net_steps, starts, steps_of}
use Rattle.schedule_model.specs.Holdings.{Hold}
use Rattle.schedule_model.specs.Recovery.{backward_entries, owed}
use Rattle.machine_model.specs.declared.kept.Kept.{Kept}
use Rattle.machine_model.specs.HoldLaws.{running_by_piece}
use Rattle.machine_model.specs.Moment.{Beginning, Lost, Moment, Piece, beginning_of, has_begun}
use Rattle.machine_model.specs.PieceLaws.{LeavesPieceOf, begun_where, piece_ended, piece_touched, state_by_piece}
use Rattle.machine_model.specs.Pieces.{running_of}
use Rattle.machine_model.specs.ProcessState.{ProcessState, begun, pending_count}
use Rattle.machine_model.specs.State.{hold_of, owed_soon, process_state}
use Rattle.machine_model.specs.Advance.{advance}
use Rattle.machine_model.specs.Runs.{may_be_kept}
use Rattle.machine_model.proofs.HoldChanges.{beginnings_stop}
use Rattle.machine_model.proofs.HoldSteps.{running_goes_by_pieces}
use Rattle.machine_model.proofs.OthersStay.{advance-stays}
use Rattle.machine_model.proofs.Snoc.{now-kept}
use Rattle.machine_model.proofs.StateSteps.{states_go_by_transitions}
use Rattle.machine_model.proofs.TidyMoments.{run-tidy}
use Rattle.instance_state.specs.Instances.{InstanceState, moved_to}
use Rattle.hold_tables.specs.Tables.{OpenProcess}
use Rattle.core_state.specs.Beginnings.{begun_row, begun_row_of, begun_seat}
use Rattle.core_state.specs.Cores.{CoreState, IsCore, courses_in, machine_of, moment_of, relation}
use Rattle.core_state.specs.OpenTables.{planned_of, row_of}
use Rattle.core_state.specs.Seats.{SeatState, lost_by, seat_of}
use Rattle.core_state.proofs.BegunLost.{lost_at, lost_now}
use Rattle.core_state.proofs.SeatFrames.{active_stays}

-- the first of two lists
first_part : {X : Type 0} (xs ys : List X) (n : ℕ) → n ≡ length xs → take n (xs ++ ys) ≡ xs
first_part xs ys n is = ap (λ k. take k (xs ++ ys)) is ∙ take-append_seam xs ys

-- of what is reserved the first is what the process owes
pub owed_first : (courses : List Course) (n : Moment) (i : ℕ) → planned_of (owed courses n.events i) ≡ take (length (forward (shape courses i) (net_steps n.events i))) (planned_of (hold_of courses n i).reserved)
owed_first courses n i =
    let o = owed courses n.events i in
    let later = owed_soon courses n.events (running_of n i) in
    let owes = forward (shape courses i) (net_steps n.events i) in
    let many : length owes ≡ length (planned_of o) = sym (length-map o (λ (e : Entry). (e.step, e.op, e.key)) ∙ length-map owes (doing courses i)) in
    sym (ap (take (length owes)) (map-append (λ (e : Entry). (e.step, e.op, e.key)) o later) ∙ first_part (planned_of o) (planned_of later) (length owes) many)

module _ (c : CoreState) (core : IsCore c) (k : Kept) (may : may_be_kept (relation c) (courses_in c) (moment_of c) k ≡ true) (i : ℕ) (away : LeavesPieceOf c.kept k i)
    (plain : state_by_piece k i (process_state (courses_in c) (moment_of c) i) (piece_ended c.kept k) ≡ process_state (courses_in c) (moment_of c) i)
    (active' : is_active (moment_of c).events i ≡ true) (was : has_begun (moment_of c) i ≡ false) (is : has_begun (advance (relation c) (courses_in c) (moment_of c) k) i ≡ true) where
  abbrev cs : List Course
  cs = courses_in c

  abbrev m : Moment
  m = moment_of c

  abbrev after : Moment
  after = advance (relation c) (courses_in c) (moment_of c) k

  abbrev s : ProcessState
  s = process_state (courses_in c) (moment_of c) i

  away_now : LeavesPieceOf m.kept k i
  away_now p found = away p (ap (λ ks. piece_touched ks k) (sym (now-kept (relation c) (machine_of c))) ∙ found)

  still_active : is_active after.events i ≡ true
  still_active = active_stays c core k may i away (and_parts (is_in i (starts m.events)) (not (is_in i (ends m.events))) active').0 ∙ active'

  state_begins : process_state cs after i ≡ begun s
  state_begins =
      states_go_by_transitions (relation c) c.plans (machine_of c) k core.session may i active' still_active
      ∙ (ap (begun_where (has_begun after i)) plain
      ∙ (ap (λ t. if t && not (has_begun m i) then begun s else s) is ∙ ap (λ t. if not t then begun s else s) was))

  stops : running_of after i ≡ None
  stops =
      running_goes_by_pieces (relation c) (machine_of c) k i core.session.run may
      ∙ (let r = running_by_piece k i (running_of m i) (piece_touched c.kept k) in
      ap (λ t. if t && not (has_begun m i) then None else r) is ∙ ap (λ t. if not t then None else r) was)

  lost_number : (o : Option Piece) → option_map (λ (l : Lost). l.piece.number) (option_map (lost_at (length c.kept + 1)) o) ≡ option_map (λ (p : Piece). p.number) o
  lost_number None = refl
  lost_number (Some p) = refl

  -- its seat
  pub seat_begins : (b : Beginning) → beginning_of (advance (relation c) (courses_in c) (moment_of c) k) i ≡ Some b
      → seat_of (courses_in c) (advance (relation c) (courses_in c) (moment_of c) k) i ≡ begun_seat b.began (seat_of (courses_in c) (moment_of c) i)
  seat_begins b found =
      ap (λ (x : ProcessState). seat_by (if is_active after.events i then Some (record { course = course cs i; state = x }) else None) (running_of after i) (lost_by after i) (beginning_of after i)) state_begins
      ∙ (ap (λ t. seat_by (if t then Some (record { course = course cs i; state = begun s }) else None) (running_of after i) (lost_by after i) (beginning_of after i)) still_active
      ∙ (ap (λ o. seat_by its o (lost_by after i) (beginning_of after i)) stops
      ∙ (ap (λ o. seat_by its None o (beginning_of after i)) (lost_now c core i was k may away_now is)
      ∙ (ap (seat_by its None (option_map (lost_at (length c.kept + 1)) (running_of m i))) found
      ∙ (ap (λ o. record { instance = its; out = None; lost = o; began = Some b.began }) (lost_number (running_of m i))
      ∙ sym (ap (λ t. record { instance = option_map (λ (x : InstanceState). moved_to x (begun x.state)) (if t then Some (record { course = course cs i; state = s }) else None); out = None; lost = option_map (λ (p : Piece). p.number) (running_of m i); began = Some b.began }) active'))))))
    where
      its : Option InstanceState
      its = Some (record { course = course (courses_in c) i; state = begun (process_state (courses_in c) (moment_of c) i) })

      seat_by : Option InstanceState → Option Piece → Option Lost → Option Beginning → SeatState
      seat_by x r l o = record { instance = x; out = option_map (λ (q : Piece). q.number) r; lost = option_map (λ (y : Lost). y.piece.number) l; began = option_map (λ (y : Beginning). y.began) o }

  abbrev row_by : Option Entry → List (ℕ × ℕ × ℕ) → ℕ → ℕ → OpenProcess
  row_by r planned f p = record { process = i; steps = length (shape (courses_in c) i).kinds; running = r; reserved = planned; fixed = f; pending = p }

  -- as many are pending as the process alone says
  pending_is : length (backward_entries cs m.events i) ≡ pending_count (begun s)
  pending_is =
      let f = fixed_len (shape cs i) (net_steps m.events i) in
      let a = length-drop f (net_of m.events i) in
      let b = length-drop f (net_steps m.events i) in
      let d = length-map (net_of m.events i) (λ (e : Entry). e.step) in
      omega arith

  steps_stay : net_steps after.events i ≡ net_steps m.events i
  steps_stay = ap steps_of (advance-stays (relation c) cs m i k (run-tidy (relation c) (machine_of c) core.session.run) may away_now).history.net

  -- its row
  pub row_begins : begun_row (seat_of (courses_in c) (moment_of c) i) (row_of (courses_in c) (moment_of c) i) ≡ row_of (courses_in c) (advance (relation c) (courses_in c) (moment_of c) k) i
  row_begins =
      let f = fixed_len (shape cs i) (net_steps m.events i) in
      ap (λ t. begun_row_of (if t then Some (record { course = course cs i; state = s }) else None) (row_of cs m i)) active'
      ∙ (ap (λ p. row_by None (take (length (forward (shape cs i) (net_steps m.events i))) (planned_of (hold_of cs m i).reserved)) f p) (sym pending_is)
      ∙ (ap (λ planned. row_by None planned f (length (backward_entries cs m.events i))) (sym (owed_first cs m i))
      ∙ (ap (λ w. row_by None (planned_of (owed cs m.events i)) (fixed_len (shape cs i) w) (length (backward_entries cs m.events i))) (sym steps_stay)
      ∙ sym (ap (λ (h : Hold). row_by h.running (planned_of h.reserved) (fixed_len (shape cs i) (net_steps after.events i)) (length h.pending)) (beginnings_stop (relation c) (machine_of c) k i core.session.run may was is)))))
