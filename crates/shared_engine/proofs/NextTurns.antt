-- A request for any piece is a turn of the machine.
use Rattle.std.proofs.Common.{◌≡◌, ◌∙◌, ℕ, Bool, true, List, [], ◌∷◌, ◌++◌, length, refl, ap, sym, subst}
use Rattle.machine_model.specs.Calls.{Reply, next, next_is}
use Rattle.machine_model.specs.Groups.{Targets}
use Rattle.machine_model.specs.Replies.{Next as NextReply}
use Rattle.machine_model.specs.Turns.{nexts, queues, flushes, says, is_closed, after_next as board_after}
use Rattle.process_core.specs.Answers.{after_call, answer_in}
use Rattle.process_core.specs.Cores.{CoreState, relation}
use Rattle.process_core.specs.Rotation.{next_reply_of}
use Rattle.process_core.specs.declared.replies.Next.{Next as CoreNext}
use Rattle.process_core.specs.declared.replies.Next.TheVariants as core
use Rattle.engine_steps.specs.declared.engines.Phase.{Phase}
use Rattle.engine_steps.specs.declared.engines.Phase.TheVariants.{Settled, Closed}
use Rattle.shared_engine.specs.declared.entries.NextSaid.TheVariants as asked
use Rattle.process_engine.specs.declared.gates.Answer.{Answer}
use Rattle.shared_engine.specs.GroupTurns.{outcome_as}
use Rattle.shared_engine.specs.declared.entries.QueueSaid.TheVariants as put
use Rattle.shared_engine.specs.declared.entries.FlushSaid.TheVariants as flushed
use Rattle.shared_engine.specs.declared.entries.TurnEntry.{TurnEntry}
use Rattle.shared_engine.specs.declared.entries.TurnEntry.TheVariants.{Next, Queue, Flush}
use Rattle.shared_engine.specs.Entries.{IsAsked, said_of}
use Rattle.shared_engine.specs.Progress.{AreTold, IsTold, Progress, after, after_next, board_of}

abbrev pub reply_in : Reply → NextReply → NextReply
reply_in (next_is r) other = r
reply_in r other = other

asked_so : (r : CoreNext) → IsAsked (next_reply_of r) (said_of r)
asked_so (core.Piece d) = refl
asked_so (core.Wait w) = (w, refl, refl)
asked_so core.AllEnded = refl
asked_so (core.Stuck i) = refl

-- whatever the answer, the core is that after the call
pub core_after : (c : CoreState) (r : CoreNext) → after_next c (said_of r) ≡ after_call c next
core_after c (core.Piece d) = refl
core_after c (core.Wait w) = refl
core_after c core.AllEnded = refl
core_after c (core.Stuck i) = refl

abbrev at : CoreState → List ℕ → Phase → Bool → Progress
at c group p due = record { core = c; group = group; phase = p; due = due }

next_told_open : (targets : Targets) (c : CoreState) (group : List ℕ) (due : Bool) (r : CoreNext) → next_is (next_reply_of r) ≡ (answer_in c next).reply → IsTold targets (at c group Settled due) (Next (said_of r))
next_told_open targets c group due r replied =
    let told = ap (λ x. reply_in x (next_reply_of r)) (sym replied) in
    record {
      turn = nexts (says (next_reply_of r));
      entry = (said_of r, refl, asked_so r);
      is_turn = (sym replied, ap (λ (d : CoreState). board_of (at d group Settled due)) (core_after c r) ∙ ap (board_after (relation c) (board_of (at c group Settled due))) told);
      due = tt;
    }

-- A request that is answered as the machine answers it is a turn;
pub next_told : (targets : Targets) (c : CoreState) (group : List ℕ) (on : Phase) (due : Bool) → on ≡ Settled → (r : CoreNext) → next_is (next_reply_of r) ≡ (answer_in c next).reply
    → IsTold targets (at c group on due) (Next (said_of r))
next_told targets c group on due settled r replied =
    subst (λ (p : Phase). IsTold targets (at c group p due) (Next (said_of r))) (sym settled) (next_told_open targets c group due r replied)

module _ (targets : Targets) (c : CoreState) (group : List ℕ) (on : Phase) (due : Bool) (shut : on ≡ Closed) (k : ℕ) (is : k ≡ length c.kept) where
  closed_by : (e : ℕ → TurnEntry) → IsTold targets (at c group Closed due) (e (length c.kept)) → IsTold targets (at c group on due) (e k)
  closed_by e told =
      subst (λ (p : Phase). IsTold targets (at c group p due) (e k)) (sym shut)
      (subst (λ (n : ℕ). IsTold targets (at c group Closed due) (e n)) (sym is) told)

  -- and so is one that a closed engine answers,
  pub closed_told : IsTold targets (at c group on due) (Next (asked.Closed k))
  closed_told = closed_by (λ n. Next (asked.Closed n)) (record {
    turn = nexts (is_closed (length c.kept));
    entry = (asked.Closed (length c.kept), refl, refl);
    is_turn = (refl, refl);
    due = tt;
  })

  -- or the queueing of a piece,
  pub closed_queue : (n : ℕ) (a : Answer) → IsTold targets (at c group on due) (Queue n a (put.Closed k))
  closed_queue n a = closed_by (λ m. Queue n a (put.Closed m)) (record {
    turn = queues n (outcome_as a) (is_closed (length c.kept));
    entry = (a, put.Closed (length c.kept), refl, refl, refl);
    is_turn = (refl, refl);
    due = tt;
  })

  -- or a flush that is due.
  pub closed_flush : due ≡ true → IsTold targets (at c group on due) (Flush (flushed.Closed k))
  closed_flush is_due = closed_by (λ m. Flush (flushed.Closed m)) (record {
    turn = flushes (is_closed (length c.kept));
    entry = (flushed.Closed (length c.kept), refl, refl);
    is_turn = (refl, refl);
    due = is_due;
  })

-- one entry more
pub told-snoc : (targets : Targets) (p : Progress) (es : List TurnEntry) (x : Progress) (e : TurnEntry) (y : Progress) → AreTold targets p es x → IsTold targets x e → y ≡ after x e
    → AreTold targets p (es ++ e ∷ []) y
told-snoc targets p [] x e y are told is = subst (λ (q : Progress). IsTold targets q e × (y ≡ after q e)) are (told, is)
told-snoc targets p (f ∷ fs) x e y are told is = (are.0, told-snoc targets (after p f) fs x e y are.1 told is)
