-- What is kept of a core, said of the core that it is seen as.
use Rattle.std.proofs.Common.{◌≡◌, ◌∙◌, ℕ, ◌-◌, ◌≤◌, List, length, slice_index_or, subst, arith}
use Rattle.schedule_model.specs.declared.event.Event.{Event}
use Rattle.hold_tables.specs.Tables.{Tables}
use Rattle.core_state.specs.Cores.{CoreState, courses_in, moment_of}
use Rattle.core_state.specs.Room.{IsKept}
use Rattle.core_state.specs.Seats.{SeatState, seat_of}
use Rattle.core_state.proofs.SeatFacts.{seat_is, seats_many}
use Rattle.core_state.proofs.StandingFacts.{seats_few}

module _ {c v : CoreState} {h : List Event} {ss : List SeatState} {ts : Tables} {opening most capacity : ℕ} (view : c ≡ v) (kept : IsKept c h ss ts opening most capacity) where
  pub kept_seen : IsKept v h ss ts opening most capacity
  kept_seen = subst (λ x. IsKept x h ss ts opening most capacity) view kept

  -- its seats are as many as its plans
  pub many_seen : length ss ≡ length v.plans
  many_seen = seats_many v ss kept_seen.stands.seats

  -- and each is that of its process
  pub seat_seen : (i : ℕ) → 1 ≤ i → i ≤ length ss → (s : SeatState) → s ≡ slice_index_or ss (i - 1) s → s ≡ seat_of (courses_in v) (moment_of v) i
  seat_seen i low high s is = is ∙ seat_is v ss i s kept_seen.stands.seats low (let many = many_seen in omega arith)

  pub few_seen : length ss ≤ 4096
  few_seen = seats_few v kept_seen.stands.core ss kept_seen.stands.seats
