-- What a core that is seen as another replies to a request for a piece of a process that may be tried.
use Rattle.std.proofs.Common.{◌≡◌, ◌∙◌, ℕ, ◌+◌, ◌-◌, ◌≤◌, true, List, length, slice_index_or, refl, sym, ap, subst, arith}
use Rattle.process_tree.specs.declared.plan.Plan.{Plan}
use Rattle.schedule_model.specs.declared.event.Event.{Event}
use Rattle.schedule_model.specs.Histories.{active, is_in, starts}
use Rattle.schedule_model.proofs.Active.{is_active-is_in}
use Rattle.machine_model.specs.declared.blocked.Admitted.{Admitted}
use Rattle.machine_model.specs.declared.blocked.Admitted.TheVariants.{Free, Blocked as BlockedBy}
use Rattle.machine_model.specs.declared.blocked.Blocked.{Blocked}
use Rattle.machine_model.specs.declared.kept.Kept.{Kept}
use Rattle.machine_model.specs.declared.replies.Todo.{Todo}
use Rattle.machine_model.specs.Pieces.{hands}
use Rattle.machine_model.specs.Replies.{Handed, blocked, piece, piece_unless}
use Rattle.machine_model.specs.State.{block_of, next_of}
use Rattle.machine_model.proofs.Snoc.{now-kept}
use Rattle.hold_tables.specs.Tables.{Tables, is_open}
use Rattle.admission.specs.Admission.{IsPlanFor, IsWithin, admission, admitted}
use Rattle.core_state.specs.declared.seats.Upcoming.TheVariants.{Task}
use Rattle.core_state.specs.Cores.{CoreState, IsCore, courses_in, machine_of, moment_of, relation}
use Rattle.process_core.specs.Handing.{IsOfPlan, piece_told}
use Rattle.core_state.specs.OpenTables.{row_of, tables_of}
use Rattle.core_state.specs.Room.{IsKept}
use Rattle.core_state.specs.Seats.{SeatState, seat_of}
use Rattle.core_state.specs.Upcoming.{upcoming}
use Rattle.core_state.proofs.KeptSeen.{kept_seen}
use Rattle.process_core.proofs.NextReplies.{admission_is, admitted_blocked, admitted_free, piece_is, step_of_plan, within_plan}
use Rattle.core_state.proofs.OwnPlans.{OwnPlan, own_plan}
use Rattle.core_state.proofs.PendedRows.{listed_open}
use Rattle.core_state.proofs.SeatFacts.{has_plan}
use Rattle.core_state.proofs.SeatReplies.{IsUpcoming, started_if, upcoming_is}

module _ {c v : CoreState} {h : List Event} {ss : List SeatState} {ts : Tables} {opening most capacity : ℕ} (view : c ≡ v) (kept : IsKept c h ss ts opening most capacity)
    (i : ℕ) (todo : Todo) (tries : ℕ) (asked : upcoming (seat_of (courses_in v) (moment_of v) i) ≡ Task todo tries) where
  core : IsCore v
  core = (kept_seen view kept).stands.core

  rows : ts ≡ tables_of v.conflicts (courses_in v) (moment_of v)
  rows = (kept_seen view kept).stands.tables

  up : IsUpcoming (courses_in v) (moment_of v) i todo tries
  up = upcoming_is (courses_in v) (moment_of v) i todo tries asked

  started : is_in i (starts (moment_of v).events) ≡ true
  started = started_if (moment_of v).events i up.active'

  -- it has a plan and is open
  pub asked_plan : (1 ≤ i) × (i ≤ length c.plans)
  asked_plan =
      let bounds = has_plan v core i started in
      let low = bounds.0 in
      let high = bounds.1 in
      let many = ap (λ (x : CoreState). length x.plans) view in
      (omega arith, omega arith)

  pub asked_open : is_open ts i ≡ true
  asked_open = ap (λ (t : Tables). is_open t i) rows ∙ listed_open (row_of (courses_in v) (moment_of v)) i (active (moment_of v).events) (λ k. refl) (is_active-is_in (moment_of v).events i ∙ up.active')

  module _ (ps : List Plan) (plans : ps ≡ c.plans) (p : Plan) (there : p ≡ slice_index_or ps (i - 1) p) where
    own : OwnPlan v i p
    own = own_plan v core i started ps (plans ∙ ap (λ (x : CoreState). x.plans) view) p there

    pub asked_known : IsPlanFor ts p
    asked_known = subst (λ (t : Tables). IsPlanFor t p) (sym rows) (record { operations = own.good.operations; known = own.known })

    -- what comes next is of the plan
    pub asked_within : IsWithin p todo
    asked_within = let t = next_of (courses_in v) (moment_of v) i in subst (λ (x : Todo). IsWithin p x) up.told (within_plan v core i up.active' p own t.work t.step refl)

    pub asked_step : IsOfPlan p todo
    asked_step = let t = next_of (courses_in v) (moment_of v) i in subst (λ (x : Todo). IsOfPlan p x) up.told (step_of_plan v core i up.active' p own t.work t.step refl)

    admits : admission ts p i todo ≡ admitted (block_of (relation v) (courses_in v) (moment_of v) i)
    admits =
        ap (λ (t : Tables). admission t p i todo) rows
        ∙ (ap (λ (x : Todo). admission (tables_of v.conflicts (courses_in v) (moment_of v)) p i x) (sym up.told) ∙ admission_is v core i up.active' p own up.idle)

    -- it is blocked
    pub asked_blocked : (r : Admitted) → r ≡ admission ts p i todo → (b : Blocked) → r ≡ BlockedBy b → blocked b ≡ piece_unless (courses_in v) (moment_of v) i (block_of (relation v) (courses_in v) (moment_of v) i)
    asked_blocked r told b is = sym (ap (piece_unless (courses_in v) (moment_of v) i) (admitted_blocked (block_of (relation v) (courses_in v) (moment_of v) i) b (sym (told ∙ admits) ∙ is)))

    -- or the piece is handed out
    pub asked_free : (r : Admitted) → r ≡ admission ts p i todo → r ≡ Free → (ks : List Kept) → ks ≡ c.kept → (n : ℕ) → n ≡ length (hands ks) + 1 → (d : Handed) → d ≡ piece_told p n i tries todo
        → piece d ≡ piece_unless (courses_in v) (moment_of v) i (block_of (relation v) (courses_in v) (moment_of v) i)
    asked_free r told is ks same n number d tells =
        let next : n ≡ length (hands (moment_of v).kept) + 1 =
        number ∙ ap (λ (xs : List Kept). length (hands xs) + 1) (same ∙ (ap (λ (x : CoreState). x.kept) view ∙ sym (now-kept (relation v) (machine_of v)))) in
        ap piece (tells ∙ (ap (piece_told p n i tries) (sym up.told) ∙ piece_is v core i up.active' p own n tries next up.often))
        ∙ sym (ap (piece_unless (courses_in v) (moment_of v) i) (admitted_free (block_of (relation v) (courses_in v) (moment_of v) i) (sym (told ∙ admits) ∙ is)))
