-- A core stands after the effect of a piece.
use Rattle.std.proofs.Common.{◌≡◌, ◌∙◌, ℕ, ◌-◌, ◌≤◌, true, false, if◌then◌else◌, List, [], ◌∷◌, ◌++◌, length, Some, None, slice_set, sym, refl, ap, arith}
use Rattle.std.proofs.lemmas.List.{length-map}
use Rattle.process_tree.specs.declared.plan.Plan.{Plan}
use Rattle.schedule_model.specs.declared.event.Event.{Event}
use Rattle.schedule_model.specs.Course.{Course, course, course_of}
use Rattle.machine_model.specs.declared.kept.Kept.TheVariants.{Effect}
use Rattle.machine_model.specs.declared.kept.Work.{Work}
use Rattle.machine_model.specs.declared.kept.Work.TheVariants.{End, Forward, Undo}
use Rattle.machine_model.specs.Moment.{Moment, Piece}
use Rattle.machine_model.specs.Pieces.{piece_of, runs}
use Rattle.machine_model.specs.Progress.{same_work}
use Rattle.machine_model.specs.State.{entry_by, entry_of, hold_of, process_state}
use Rattle.machine_model.specs.Advance.{advance, event_by, event_of}
use Rattle.hold_tables.specs.Tables.{OpenProcess, Tables, kept_of}
use Rattle.core_state.specs.Cores.{CoreState, courses_in, moment_of, relation}
use Rattle.core_state.specs.Effects.{event_told, pending_in, seat_effected, tables_effected}
use Rattle.core_state.specs.OpenTables.{tables_of}
use Rattle.core_state.specs.Seats.{SeatState, Stands, seat_of, seats_of}
use Rattle.core_state.proofs.EffectRows.{its_row, pending_at, runs_it}
use Rattle.core_state.proofs.EffectSeats.{act_active, begun_same, events_are, its_started, others_away, seat_effect}
use Rattle.core_state.proofs.EffectSteps.{tables_step}
use Rattle.core_state.proofs.EffectUndos.{tables_end, tables_undo}
use Rattle.core_state.proofs.HandStands.{core_kept, moment_kept, with_event}
use Rattle.core_state.proofs.SeatFacts.{has_plan}
use Rattle.core_state.proofs.SeatFrames.{seat_frame}
use Rattle.core_state.proofs.SeatLists.{seat_changed}

module _ (c : CoreState) (d : Piece) (found : piece_of c.kept d.number ≡ Some d) (out : runs (moment_of c) d.number ≡ true) (p : Plan) (plan : course (courses_in c) d.process ≡ course_of p)
    (h : List Event) (ss : List SeatState) (ts : Tables) (stands : Stands c h ss ts) where
  abbrev cs : List Course
  cs = courses_in c

  abbrev m : Moment
  m = moment_of c

  abbrev i : ℕ
  i = d.process

  abbrev after : Moment
  after = advance (relation c) (courses_in c) (moment_of c) (Effect d.number)

  -- the event that the tables tell
  pub event_is : event_told d.process (kept_of ts d.process).running ≡ event_of (courses_in c) d
  event_is =
      ap (λ (t : Tables). event_told i (kept_of t i).running) stands.tables
      ∙ (ap (λ (r : OpenProcess). event_told i r.running) (its_row c stands.core d found out)
      ∙ (ap (λ o. event_told i (entry_of cs o)) (runs_it c stands.core d found out) ∙ by_work d.work))
    where
      by_work : (w : Work) → event_told i (entry_by cs i d.step w) ≡ event_by cs i d.step w
      by_work Forward = refl
      by_work Undo = refl
      by_work End = refl

  -- as many are to be undone as the seat says, where the process stays active
  pending_is : (w : Work) → d.work ≡ w → same_work w End ≡ false → pending_in (seat_effected d.work (seat_of cs m i)).instance ≡ length (hold_of cs after i).pending
  pending_is w is no_end =
      ap (λ (s : SeatState). pending_in s.instance) (sym (seat_effect c stands.core d found out))
      ∙ (ap (λ t. pending_in (if t then Some (record { course = course cs i; state = process_state cs after i }) else None)) (act_active c stands.core d found out w is no_end)
      ∙ pending_at cs after i)

  tables_are : (w : Work) → d.work ≡ w → tables_effected p i d.step w (pending_in (seat_effected d.work (seat_of cs m i)).instance) (tables_of c.conflicts cs m) ≡ tables_of c.conflicts cs after
  tables_are Forward is = tables_step c stands.core d found out is p plan (pending_in (seat_effected d.work (seat_of cs m i)).instance) (pending_is Forward is refl)
  tables_are Undo is = tables_undo c stands.core d found out is (pending_in (seat_effected d.work (seat_of cs m i)).instance) (pending_is Undo is refl)
  tables_are End is = tables_end c stands.core d found out is

  pub bounds : (1 ≤ d.process) × (d.process ≤ length c.plans)
  bounds = has_plan c stands.core i (its_started c stands.core d found out)

  moment : moment_of (with_event c (Effect d.number)) ≡ after
  moment = moment_kept c stands.core (Effect d.number) refl out

  seats_are : slice_set (seats_of cs m) (i - 1) (seat_effected d.work (seat_of cs m i)) ≡ seats_of cs after
  seats_are =
      ap (slice_set (seats_of cs m) (i - 1)) (sym (seat_effect c stands.core d found out))
      ∙ seat_changed c stands.core after i bounds.0 (let many = length-map c.plans course_of in let high = bounds.1 in omega arith)
      (λ j started other. sym (seat_frame c stands.core (Effect d.number) out j (others_away c stands.core d found out j other) started (begun_same c stands.core d found out j)))

  pub effect_stands : Stands (with_event c (Effect d.number)) (h ++ event_of (courses_in c) d ∷ [])
      (slice_set ss (d.process - 1) (seat_effected d.work (seat_of (courses_in c) (moment_of c) d.process)))
      (tables_effected p d.process d.step d.work (pending_in (seat_effected d.work (seat_of (courses_in c) (moment_of c) d.process)).instance) ts)
  effect_stands = record {
    core = core_kept c stands.core (Effect d.number) refl out;
    events = ap (λ (o : Moment). o.events) moment ∙ (events_are c stands.core d found out ∙ ap (λ es. es ++ event_of cs d ∷ []) stands.events);
    seats = sym (ap (seats_of cs) moment ∙ (sym seats_are ∙ ap (λ xs. slice_set xs (i - 1) (seat_effected d.work (seat_of cs m i))) (sym stands.seats)));
    tables = sym (ap (tables_of c.conflicts cs) moment ∙ (sym (tables_are d.work refl) ∙ ap (tables_effected p i d.step d.work (pending_in (seat_effected d.work (seat_of cs m i)).instance)) (sym stands.tables)));
  }
