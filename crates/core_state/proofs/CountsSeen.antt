-- How much the history of a core that is seen as another has of what the limits count.
use Rattle.std.proofs.Common.{◌≡◌, ℕ, ◌+◌, ◌≤◌, List, filter, length, ap, arith}
use Rattle.std.specs.List.{sum_by}
use Rattle.process_tree.specs.Blocks.{numbers_from}
use Rattle.schedule_model.specs.declared.event.Event.{Event}
use Rattle.schedule_model.specs.Course.{course}
use Rattle.schedule_model.specs.Histories.{active, is_active, starts}
use Rattle.schedule_model.specs.Limits.{entries, need}
use Rattle.hold_tables.specs.Tables.{Tables}
use Rattle.core_state.specs.Cores.{CoreState, courses_in, history_of}
use Rattle.core_state.specs.Room.{IsKept}
use Rattle.core_state.specs.Seats.{SeatState}
use Rattle.core_state.specs.Starting.{settled_count}
use Rattle.core_state.proofs.ActiveSums.{all_active}
use Rattle.core_state.proofs.EntryCounts.{entries_are}
use Rattle.core_state.proofs.FewEvents.{few_events}
use Rattle.core_state.proofs.KeptSeen.{kept_seen, many_seen}

module _ {c v : CoreState} {h : List Event} {ss : List SeatState} {ts : Tables} {opening most capacity : ℕ} (view : c ≡ v) (kept : IsKept c h ss ts opening most capacity) where
  pub events_seen : length h ≤ 20480
  events_seen = let few = few_events v (kept_seen view kept).stands.core in let same = ap length (kept_seen view kept).stands.events in omega arith

  -- each seat is of a process that started
  pub started_seen : length ss ≡ length (starts (history_of v))
  started_seen = let many = many_seen view kept in let each = (kept_seen view kept).stands.core.session.one_each in omega arith

  -- the active ones are among the numbers of all seats
  pub active_seen : (n : ℕ) → n ≡ length ss → filter (is_active (history_of v)) (numbers_from 1 n) ≡ active (history_of v)
  active_seen n all = all_active v (kept_seen view kept).stands.core n (let many = many_seen view kept in omega arith)

  -- entries that stand and those that may follow
  pub entries_seen : (settled needed : ℕ) → settled ≡ settled_count ss h → needed ≡ sum_by (λ i. need (course (courses_in v) i)) (active (history_of v)) → settled + needed ≡ entries (courses_in v) (history_of v)
  entries_seen settled needed a b =
      let all = entries_are v (kept_seen view kept).stands.core ss (kept_seen view kept).stands.seats in
      let same = ap (settled_count ss) (kept_seen view kept).stands.events in
      omega arith
