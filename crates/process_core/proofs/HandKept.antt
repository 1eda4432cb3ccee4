-- What a core has of a piece that it hands out, and what it keeps then.
use Rattle.std.proofs.Common.{◌≡◌, ◌∙◌, ℕ, ◌-◌, ◌≤◌, ◌<◌, true, List, [], ◌∷◌, ◌++◌, length, slice_index_or, slice_set, Some, None, sym, refl, ap, subst, arith}
use Rattle.process_tree.specs.declared.plan.Plan.{Plan}
use Rattle.process_tree.specs.Blocks.{outline}
use Rattle.schedule_model.specs.declared.event.Event.{Event}
use Rattle.schedule_model.specs.Histories.{is_in, starts}
use Rattle.schedule_model.specs.Laws.{IsGoodPlan}
use Rattle.machine_model.specs.declared.kept.Kept.{Kept}
use Rattle.machine_model.specs.Moment.{Piece}
use Rattle.machine_model.specs.Replies.{Handed, kept_hand}
use Rattle.machine_model.specs.Runs.{may_be_kept}
use Rattle.hold_tables.specs.Changes.{changed}
use Rattle.hold_tables.specs.Tables.{Tables, is_open, kept_of}
use Rattle.admission.specs.Admission.{IsPlanFor}
use Rattle.core_state.specs.Cores.{CoreState, IsCore, courses_in, moment_of, relation}
use Rattle.core_state.specs.UnderWay.{MayComeUnderWay, under_way}
use Rattle.process_core.specs.Handing.{with_kept}
use Rattle.core_state.specs.Room.{IsKept}
use Rattle.core_state.specs.Seats.{SeatState, seat_of}
use Rattle.core_state.proofs.HandStands.{apart_now, hand_stands, handed_row, with_event}
use Rattle.core_state.proofs.HandTables.{active_now, idle_row, may_come, open_now, plan_row, steps_row, tables_under_way}
use Rattle.core_state.proofs.KeptRoom.{kept_after, kept_same, room_to_push, view_grown}
use Rattle.core_state.proofs.KeptSeen.{kept_seen}
use Rattle.core_state.proofs.OwnPlans.{OwnPlan, own_plan}
use Rattle.core_state.proofs.SeatFacts.{has_plan, seat_is, seats_many}
use Rattle.core_state.proofs.SeatReplies.{started_if}

module _ {c v : CoreState} {h : List Event} {ss : List SeatState} {ts : Tables} {opening most capacity : ℕ} (view : c ≡ v) (kept : IsKept c h ss ts opening most capacity)
    {x y : Handed} (same : x ≡ y) (told : may_be_kept (relation v) (courses_in v) (moment_of v) (kept_hand y) ≡ true) where
  abbrev d : Piece
  d = x.piece

  may : may_be_kept (relation v) (courses_in v) (moment_of v) (kept_hand x) ≡ true
  may = subst (λ (z : Handed). may_be_kept (relation v) (courses_in v) (moment_of v) (kept_hand z) ≡ true) (sym same) told

  seen : IsKept v h ss ts opening most capacity
  seen = kept_seen view kept

  core : IsCore v
  core = seen.stands.core

  started : is_in d.process (starts (moment_of v).events) ≡ true
  started = started_if (moment_of v).events d.process (active_now v core d may)

  bounds : (1 ≤ d.process) × (d.process ≤ length v.plans)
  bounds = has_plan v core d.process started

  -- its process has a seat and a plan, and is open
  pub hand_seat : (1 ≤ x.piece.process) × (x.piece.process ≤ length ss)
  hand_seat = let b = bounds in let low = b.0 in let high = b.1 in let many = seats_many v ss seen.stands.seats in (omega arith, omega arith)

  pub hand_plan : (1 ≤ x.piece.process) × (x.piece.process ≤ length c.plans)
  hand_plan = let b = bounds in let low = b.0 in let high = b.1 in let many = ap (λ (z : CoreState). length z.plans) view in (omega arith, omega arith)

  pub hand_open : is_open ts x.piece.process ≡ true
  hand_open = ap (λ (t : Tables). is_open t d.process) seen.stands.tables ∙ open_now v core d may

  -- there is room for one event more
  pub hand_room : length c.kept < capacity
  hand_room = let room = room_to_push v core (kept_hand x) refl may seen in let many = ap (λ (z : CoreState). length z.kept) view in omega arith

  module _ (ps : List Plan) (plans : ps ≡ c.plans) (p : Plan) (there : p ≡ slice_index_or ps (x.piece.process - 1) p) where
    own : OwnPlan v d.process p
    own = own_plan v core d.process started ps (plans ∙ ap (λ (z : CoreState). z.plans) view) p there

    pub hand_good : IsGoodPlan p
    hand_good = own.good

    -- nothing of it is under way, and its piece may come under way
    pub hand_idle : (kept_of ts x.piece.process).running ≡ None
    hand_idle = ap (λ (t : Tables). (kept_of t d.process).running) seen.stands.tables ∙ idle_row v core d may p own

    pub hand_known : IsPlanFor ts p
    hand_known = subst (λ (t : Tables). IsPlanFor t p) (sym seen.stands.tables) (plan_row v core d may p own)

    pub hand_steps : (kept_of ts x.piece.process).steps ≡ length (outline p.tree).steps
    hand_steps = ap (λ (t : Tables). (kept_of t d.process).steps) seen.stands.tables ∙ steps_row v core d may p own

    pub hand_may : MayComeUnderWay p x.piece.process x.piece.step ts x.piece.work
    hand_may = subst (λ (t : Tables). MayComeUnderWay p d.process d.step t d.work) (sym seen.stands.tables) (may_come v core d may p own)

    module _ (us : Tables) (are : us ≡ under_way p x.piece.process x.piece.step ts x.piece.work) (ks : List Kept) (longer : ks ≡ c.kept ++ kept_hand x ∷ []) where
      tables : us ≡ changed (handed_row v core (apart_now v d may h ss ts seen.stands) d may) d.process ts
      tables =
          are ∙ (ap (λ t. under_way p d.process d.step t d.work) seen.stands.tables
          ∙ (tables_under_way v core d may p own ∙ ap (changed (handed_row v core (apart_now v d may h ss ts seen.stands) d may) d.process) (sym seen.stands.tables)))

      grown : record { conflicts = us.conflicts; plans = c.plans; opening = c.opening; kept = ks; served = c.served } ≡ with_event v (kept_hand x)
      grown = view_grown us.conflicts c.conflicts c.plans c.opening c.opening ks c.kept c.served (kept_hand x) v view
          (ap (λ (t : Tables). t.conflicts) tables ∙ (ap (λ (t : Tables). t.conflicts) seen.stands.tables ∙ sym (ap (λ (z : CoreState). z.conflicts) view))) refl longer

      -- the core with the event
      pub hand_core : record { conflicts = us.conflicts; plans = c.plans; opening = c.opening; kept = ks; served = c.served } ≡ with_kept v (kept_hand y)
      hand_core = grown ∙ ap (λ (z : Handed). with_kept v (kept_hand z)) same

      -- what is kept of it then
      pub hand_kept : (s t : SeatState) → s ≡ slice_index_or ss (x.piece.process - 1) s → t ≡ s → (n : ℕ) → n ≡ capacity
          → IsKept (record { conflicts = us.conflicts; plans = c.plans; opening = c.opening; kept = ks; served = c.served }) h
          (slice_set ss (x.piece.process - 1) (record { instance = t.instance; out = Some x.piece.number; lost = t.lost; began = t.began })) us opening most n
      hand_kept s t found same' n room =
          let its : SeatState = seat_of (courses_in v) (moment_of v) d.process in
          let with_out : SeatState → SeatState = λ z. record { instance = z.instance; out = Some d.number; lost = z.lost; began = z.began } in
          kept_same _ (with_event v (kept_hand x)) h h _ (slice_set ss (d.process - 1) (with_out its)) us (changed (handed_row v core (apart_now v d may h ss ts seen.stands) d may) d.process ts) n capacity opening most
          grown refl (ap (λ z. slice_set ss (d.process - 1) (with_out z)) (same' ∙ (found ∙ seat_is v ss d.process s seen.stands.seats bounds.0 bounds.1))) tables room
          (kept_after v core (kept_hand x) refl may seen (hand_stands v d may h ss ts seen.stands))
