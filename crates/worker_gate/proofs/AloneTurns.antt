-- A turn of one thread alone: the piece that it ends is no longer out, and more is kept, within a bound that stays.
use Rattle.std.proofs.Common.{◌≡◌, ◌≢◌, ◌∙◌, ◌≤◌, ◌<◌, Bool, true, false, not, filter, List, [], ◌∷◌, ◌++◌, length, Some, None, refl, ap, sym, length-append, arith}
use Rattle.std.specs.List.{sum_by}
use Rattle.std.proofs.lemmas.Bool.{false≢true}
use Rattle.process_disk.specs.declared.rack.Rack.{Ghosts as Racks}
use Rattle.process_tree.specs.declared.plan.Plan.{Plan}
use Rattle.process_tree.specs.declared.play.Outcome.{Outcome}
use Rattle.process_tree.specs.declared.play.Outcome.TheVariants.{Done as Succeeds, Refused as Fails}
use Rattle.process_tree.specs.Blocks.{numbers_from}
use Rattle.schedule_model.specs.declared.event.Event.{Event}
use Rattle.schedule_model.specs.Course.{courses_of, course}
use Rattle.schedule_model.specs.Histories.{ends, is_in}
use Rattle.machine_model.specs.declared.kept.Kept.{Kept}
use Rattle.machine_model.specs.declared.kept.Kept.TheVariants.{Effect, Refuse}
use Rattle.machine_model.specs.declared.kept.Work.TheVariants.{End}
use Rattle.machine_model.specs.declared.replies.PieceState.TheVariants.{Out}
use Rattle.machine_model.specs.Advance.{advance}
use Rattle.machine_model.specs.Calls.{next, next_is}
use Rattle.machine_model.specs.Moment.{Moment}
use Rattle.machine_model.specs.Progress.{same_work}
use Rattle.machine_model.specs.Replies.{Finish as Reply, Handed, all_victims, chosen, dropped, effected, finish_reply, kept_hand, no_piece, no_refusal, out_finish, over, refused, refused_unless_end}
use Rattle.process_core.specs.Answers.{after_call, answer_in}
use Rattle.process_core.specs.Cores.{CoreState, IsCore, IsHandedBy, courses_in, machine_of, moment_of, relation}
use Rattle.process_core.specs.Room.{kept_for, room_of}
use Rattle.process_core.proofs.KeptBound.{bound_on_kept}
use Rattle.process_core.proofs.Rotations.{numbered_now}
use Rattle.engine_steps.specs.Engines.{EngineState}
use Rattle.process_engine.specs.Finishing.{Finishes}
use Rattle.process_engine.specs.declared.finishing.Finish.{Finish}
use Rattle.process_engine.specs.declared.finishing.Finish.TheVariants.{Effected, Retry, Failed, Over, Dropped, Exhausted, DiskFault, NoMemory, Closed}
use Rattle.process_engine.proofs.BarredPieces.{reply_by}
use Rattle.engine_calls.specs.Runs.{GoesOn}
use Rattle.engine_calls.proofs.GateEnds.{kept_by, kept_of}
use Rattle.worker_gate.specs.Running.{NothingRuns, failure_of}
use Rattle.worker_gate.specs.declared.alone.RunOutcome.TheVariants as outcomes
use Rattle.worker_gate.proofs.AloneReplies.{kept_next}
use Rattle.worker_gate.proofs.IdleMoments.{alone_is_out, effect_idle, moment_with, refusal_idle}

-- the reply is about a piece that was out
abbrev ends_it : Reply → Bool
ends_it (effected n) = true
ends_it (refused r) = true
ends_it no_refusal = true
ends_it over = false
ends_it (dropped k) = false
ends_it no_piece = false

module _ {R B : Type 0} (racks : Racks R) (old new : EngineState R B) (p : Handed) (handed : IsHandedBy old.core p.piece) (alone : (moment_of old.core).out ≡ p.piece ∷ [])
    (goes : GoesOn racks [] old new) (outcome : Outcome) where
  reply_ends : (o : Outcome) → ends_it (out_finish (relation old.core) (courses_in old.core) (moment_of old.core) p.piece o) ≡ true
  reply_ends Succeeds = refl
  reply_ends Fails = by (same_work p.piece.work End)
    where
      by : (t : Bool) → ends_it (refused_unless_end (relation old.core) (courses_in old.core) (moment_of old.core) p.piece t) ≡ true
      by true = refl
      by false = refl

  -- it is neither over nor dropped
  it_ends : ends_it (finish_reply (relation old.core) (courses_in old.core) (moment_of old.core) p.piece.number outcome) ≡ true
  it_ends = ap ends_it (reply_by old.core p.piece handed outcome Out (alone_is_out (moment_of old.core) p.piece alone)) ∙ reply_ends outcome

  after : (k : Kept) → new.core.plans ≡ old.core.plans → new.core.kept ≡ old.core.kept ++ k ∷ [] → moment_of new.core ≡ advance (relation old.core) (courses_in old.core) (moment_of old.core) k
  after k plans kept = moment_with old.core new.core (k ∷ []) goes.conflicts plans goes.opening kept

  effect_so : new.core.plans ≡ old.core.plans → new.core.kept ≡ old.core.kept ++ Effect p.piece.number ∷ [] → NothingRuns new.core
  effect_so plans kept = ap (λ (m : Moment). m.out) (after (Effect p.piece.number) plans kept) ∙ effect_idle (relation old.core) (courses_in old.core) (moment_of old.core) p.piece alone

  refusal_so : new.core.plans ≡ old.core.plans → new.core.kept ≡ old.core.kept ++ Refuse p.piece.number ∷ [] → NothingRuns new.core
  refusal_so plans kept = ap (λ (m : Moment). m.out) (after (Refuse p.piece.number) plans kept) ∙ refusal_idle (relation old.core) (courses_in old.core) (moment_of old.core) p.piece alone

  idle_by : (a : Finish) → Finishes racks.disk old new p outcome a → new.core.kept ≡ old.core.kept ++ kept_by p.piece.number a → failure_of a ≡ None → NothingRuns new.core
  idle_by (Effected k) fin kept none = effect_so (ap (λ (c : CoreState). c.plans) fin.left.core) kept
  idle_by (Retry k) fin kept none = refusal_so (ap (λ (c : CoreState). c.plans) fin.left.0.core) kept
  idle_by Failed fin kept none = refusal_so (ap (λ (c : CoreState). c.plans) fin.left.0.core) kept
  idle_by Exhausted fin kept none = refusal_so (ap (λ (c : CoreState). c.plans) fin.left.0.core) kept
  idle_by Over fin kept none = absurd (false≢true (sym (ap ends_it fin.reply) ∙ it_ends))
  idle_by (Dropped k) fin kept none = absurd (false≢true (sym (ap ends_it fin.reply) ∙ it_ends))
  idle_by DiskFault fin kept none = absurd cc
  idle_by (NoMemory q) fin kept none = absurd cc
  idle_by (Closed k) fin kept none = absurd fin.reply

  -- Once a piece that was out alone has ended, none is out.
  pub idle_after : (a : Finish) → Finishes racks.disk old new p outcome a → failure_of a ≡ None → NothingRuns new.core
  idle_after a fin none = idle_by a fin (kept_of racks.disk old new p outcome a fin) none

-- A piece that was handed out and worked on adds to what is kept.
pub more_kept : {R B : Type 0} (racks : Racks R) (old mid new : EngineState R B) (d : Handed) → mid.core ≡ after_call old.core next
    → next_is (chosen d) ≡ (answer_in old.core next).reply → GoesOn racks [] mid new → length old.core.kept < length new.core.kept
more_kept racks old mid new d is replied goes =
    let vs = all_victims (relation old.core) (courses_in old.core) (moment_of old.core) in
    let one = ap length (kept_next old.core mid.core is (chosen d) replied) ∙ length-append old.core.kept (vs ++ kept_hand d ∷ []) in
    let hand = length-append vs (kept_hand d ∷ []) in
    let two = ap length goes.kept ∙ length-append mid.core.kept goes.added in
    omega (arith, one, hand, two)

-- how many events are kept at most, by the plans, and by what had ended at the opening
room_by : (c : CoreState) → IsCore c → room_of c ≡ sum_by (λ i. kept_for (course (courses_of c.plans) i)) (filter (λ i. not (is_in i (ends c.opening))) (numbers_from 1 (length c.plans)))
room_by c core = ap (λ is. sum_by (λ i. kept_for (course (courses_of c.plans) i)) (filter (λ i. not (is_in i (ends c.opening))) is)) (numbered_now c core)

-- The bound on what is kept stays while no process starts,
pub room_same : (old new : CoreState) → IsCore old → IsCore new → new.plans ≡ old.plans → new.opening ≡ old.opening → room_of new ≡ room_of old
room_same old new is_old is_new plans opening =
    room_by new is_new
    ∙ (ap (λ (ps : List Plan). sum_by (λ i. kept_for (course (courses_of ps) i)) (filter (λ i. not (is_in i (ends new.opening))) (numbers_from 1 (length ps)))) plans
    ∙ (ap (λ (es : List Event). sum_by (λ i. kept_for (course (courses_of old.plans) i)) (filter (λ i. not (is_in i (ends es))) (numbers_from 1 (length old.plans)))) opening ∙ sym (room_by old is_old)))

-- and what is kept stays within it.
pub within_room : (c : CoreState) → IsCore c → length c.kept ≤ room_of c
within_room c core = bound_on_kept (relation c) c.plans (machine_of c) core.session

-- what doesn't end in a fault of the rack came from no fault
pub no_fault : (a : Finish) → failure_of a ≢ Some outcomes.DiskFault → a ≢ DiskFault
no_fault a other same = other (ap failure_of same)
