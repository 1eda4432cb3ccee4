-- Calls of several threads: those of one thread are such calls, and what they keep.
use Rattle.std.proofs.Common.{◌≡◌, ◌∙◌, ℕ, List, [], ◌∷◌, ◌++◌, refl, ap, sym, subst, ⊎_elim, inl, inr, append-nil, append_assoc, arith}
use Rattle.process_disk.specs.declared.rack.Rack.{Ghosts as Racks}
use Rattle.process_tree.specs.Order.{Each}
use Rattle.process_tree.proofs.Every.{Each-append}
use Rattle.machine_model.specs.declared.kept.Kept.{Kept}
use Rattle.machine_model.specs.Advance.{advance_all}
use Rattle.machine_model.specs.Calls.{finish, next}
use Rattle.machine_model.specs.Replies.{Finish, all_victims, dropped, effected, finish_kept, finish_reply, next_reply, no_piece, no_refusal, over, refused}
use Rattle.process_core.specs.Answers.{after_call, answer_in}
use Rattle.process_core.specs.Cores.{CoreState, courses_in, moment_of, relation}
use Rattle.engine_steps.specs.Engines.{EngineState}
use Rattle.engine_calls.specs.GateAnswers.{AskedGate, kept_since, steps_handed}
use Rattle.engine_calls.proofs.GateRuns.{kept_is}
use Rattle.worker_gate.specs.ManyGates.{AreCalls, AskedGates, IsCall, RanByGates}
use Rattle.worker_gate.specs.Running.{AreTurns, IsOfRunning, RanBy}
use Rattle.worker_gate.proofs.RanRuns.{next_each}

-- the gates that are this one alone
abbrev pub of_one : AskedGate → AskedGates
of_one gate = record { answers = gate.answers; before = gate.before ∷ []; after = gate.after ∷ [] }

-- a turn of one thread is one call or two
calls_of : (cores : List CoreState) (old new : CoreState) → AreTurns cores old new → (all : List CoreState) × AreCalls all old new
calls_of [] old new is = ([], is)
calls_of (core ∷ cores) old new turns =
    let rest = calls_of cores core new turns.1 in
    ⊎_elim (λ is. (core ∷ rest.0, (inl is, rest.1))) (λ turn. (after_call old next ∷ core ∷ rest.0, (inl refl, (inr (turn.0.piece.number, turn.1, turn.3), rest.1)))) turns.0

-- What one thread ran with a gate was run by the gates that are this one.
pub ran_by_one : {R B : Type 0} (racks : Racks R) (gate : AskedGate) (old new : EngineState R B) → RanBy racks gate old new → RanByGates racks (of_one gate) old new
ran_by_one racks gate old new ran =
    let all = calls_of ran.cores old.core new.core ran.turns in
    let steps = steps_handed (kept_since old.core new.core) in
    record {
      goes = ran.goes;
      plans = ran.plans;
      running = ran.running;
      by_gates = record {
        answered = ran.by_gate.answered;
        counted = λ low. let counted = ran.by_gate.counted low.0 in omega (arith, counted);
        asked = (steps, 0, omega arith, ran.asked_once, ran.by_gate.later, refl);
      };
      cores = all.0;
      calls = all.1;
    }

ended_each : (n : ℕ) (r : Finish) → Each IsOfRunning (finish_kept n r)
ended_each n (effected e) = (tt, tt)
ended_each n (refused r) = (tt, tt)
ended_each n over = tt
ended_each n (dropped k) = tt
ended_each n no_piece = tt
ended_each n no_refusal = tt

-- events were kept, each of which is kept where processes are only run
record KeptRunning (old new : CoreState) : Type 0 where
  pub added : List Kept
  pub kept : new.kept ≡ old.kept ++ added
  pub each : Each IsOfRunning added

kept_then : (old mid new : CoreState) → KeptRunning old mid → KeptRunning mid new → KeptRunning old new
kept_then old mid new one two = record {
  added = one.added ++ two.added;
  kept = two.kept ∙ (ap (λ ks. ks ++ two.added) one.kept ∙ append_assoc old.kept one.added two.added);
  each = Each-append IsOfRunning one.added two.added one.each two.each;
}

call_running : (old new : CoreState) → IsCall old new → KeptRunning old new
call_running old new call = ⊎_elim
    (λ is.
    let vs = all_victims (relation old) (courses_in old) (moment_of old) in
    let reply = next_reply (relation old) (courses_in old) (advance_all (relation old) (courses_in old) (moment_of old) vs) old.served in
    record { added = (answer_in old next).kept; kept = ap (λ (c : CoreState). c.kept) is; each = next_each IsOfRunning (λ i. tt) (λ d. tt) old reply })
    (λ end. record {
      added = (answer_in old (finish end.0 end.1)).kept;
      kept = ap (λ (c : CoreState). c.kept) end.2;
      each = ended_each end.0 (finish_reply (relation old) (courses_in old) (moment_of old) end.0 end.1);
    })
    call

kept_running : (cores : List CoreState) (old new : CoreState) → AreCalls cores old new → KeptRunning old new
kept_running [] old new is = record { added = []; kept = ap (λ (c : CoreState). c.kept) is ∙ sym (append-nil old.kept); each = tt }
kept_running (core ∷ cores) old new calls = kept_then old core new (call_running old core calls.0) (kept_running cores core new calls.1)

-- What calls of any threads keep is kept where processes are only run.
pub calls_running : (cores : List CoreState) (old new : CoreState) → AreCalls cores old new → Each IsOfRunning (kept_since old new)
calls_running cores old new calls = let all = kept_running cores old new calls in subst (Each IsOfRunning) (sym (kept_is old new all.added all.kept)) all.each
