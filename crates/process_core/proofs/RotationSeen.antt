-- What a core is told of its processes in rotation: of those behind the one served last, and then of those up to it.
use Rattle.std.proofs.Common.{◌≡◌, ◌∙◌, ℕ, ◌+◌, ◌-◌, List, length, find, min, Option, sym, ap}
use Rattle.std.specs.List.{slice_get}
use Rattle.std.specs.Option.{option_map, option_or}
use Rattle.process_tree.specs.Blocks.{numbers_from}
use Rattle.schedule_model.specs.declared.event.Event.{Event}
use Rattle.machine_model.specs.Replies.{Handed, admit_reply, blocked_in_rotation, hand_to, rotation}
use Rattle.machine_model.specs.State.{is_free}
use Rattle.hold_tables.specs.Tables.{Tables}
use Rattle.core_state.specs.Cores.{CoreState, courses_in, moment_of, relation}
use Rattle.core_state.specs.Room.{IsKept}
use Rattle.process_core.specs.Rotation.{first_told, piece_in, waiting_in, waiting_of}
use Rattle.core_state.specs.Seats.{SeatState}
use Rattle.process_core.specs.declared.replies.Waiting.{Waiting}
use Rattle.core_state.proofs.KeptSeen.{kept_seen, many_seen}
use Rattle.process_core.proofs.Rotations.{free_in_rotation, numbered_now, two_runs}
use Rattle.process_core.proofs.Waits.{waiting_in_rotation}

module _ {c v : CoreState} {h : List Event} {ss : List SeatState} {ts : Tables} {opening most capacity : ℕ} (view : c ≡ v) (kept : IsKept c h ss ts opening most capacity)
    (count : ℕ) (many : count ≡ length ss) (last : ℕ) (least : last ≡ min c.served count) where
  in_two_runs : {X : Type 0} (f : ℕ → Option X) (a b : Option X) → a ≡ first_told f (numbers_from (last + 1) (count + 1 - (last + 1))) → b ≡ first_told f (numbers_from 1 (last + 1 - 1))
      → option_or a b
      ≡ option_or (first_told f (numbers_from (min v.served (length v.plans) + 1) (length v.plans - min v.served (length v.plans)))) (first_told f (numbers_from 1 (min v.served (length v.plans))))
  in_two_runs f a b behind before =
      let all : count ≡ length v.plans = many ∙ many_seen view kept in
      ap (λ o. option_or o b) behind
      ∙ (ap (λ o. option_or (first_told f (numbers_from (last + 1) (count + 1 - (last + 1)))) o) before
      ∙ two_runs f v.served (length v.plans) last count (least ∙ (ap (λ (x : CoreState). min x.served count) view ∙ ap (min v.served) all)) all)

  -- the first free piece
  pub free_seen : (a b : Option Handed)
      → a ≡ first_told (λ i. piece_in (admit_reply (relation v) (courses_in v) (moment_of v) i)) (numbers_from (last + 1) (count + 1 - (last + 1)))
      → b ≡ first_told (λ i. piece_in (admit_reply (relation v) (courses_in v) (moment_of v) i)) (numbers_from 1 (last + 1 - 1))
      → option_or a b ≡ option_map (hand_to (courses_in v) (moment_of v)) (find (is_free (relation v) (courses_in v) (moment_of v)) (rotation (moment_of v) v.served))
  free_seen a b behind before =
      in_two_runs (λ i. piece_in (admit_reply (relation v) (courses_in v) (moment_of v) i)) a b behind before
      ∙ sym (free_in_rotation (relation v) (courses_in v) (moment_of v) (length v.plans) v.served (numbered_now v (kept_seen view kept).stands.core))

  -- the first blocked process
  pub waiting_seen : (a b : Option Waiting)
      → a ≡ first_told (λ i. waiting_in i (admit_reply (relation v) (courses_in v) (moment_of v) i)) (numbers_from (last + 1) (count + 1 - (last + 1)))
      → b ≡ first_told (λ i. waiting_in i (admit_reply (relation v) (courses_in v) (moment_of v) i)) (numbers_from 1 (last + 1 - 1))
      → option_map waiting_of (option_or a b) ≡ slice_get (blocked_in_rotation (relation v) (courses_in v) (moment_of v) v.served) 0
  waiting_seen a b behind before =
      ap (option_map waiting_of) (in_two_runs (λ i. waiting_in i (admit_reply (relation v) (courses_in v) (moment_of v) i)) a b behind before)
      ∙ sym (waiting_in_rotation (relation v) (courses_in v) (moment_of v) (length v.plans) v.served (numbered_now v (kept_seen view kept).stands.core))
