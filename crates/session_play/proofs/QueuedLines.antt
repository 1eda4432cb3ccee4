-- The queueing of a piece, as a line of a session.
use Rattle.std.proofs.Common.{◌≡◌, ◌≢◌, ◌∙◌, ◌⊎◌, ⊎_elim, ℕ, List, [], ◌∷◌, ◌++◌, map, inl, inr, refl, ap, sym, subst, append-nil}
use Rattle.std.proofs.lemmas.List.{map-append}
use Rattle.std.specs.Option.{option_to_list}
use Rattle.process_tree.specs.declared.play.Outcome.TheVariants.{Refused}
use Rattle.machine_model.specs.Calls.{finish}
use Rattle.machine_model.specs.Groups as groups
use Rattle.machine_model.specs.Groups.{Queue as Reply, queue_adds, queue_reply}
use Rattle.machine_model.specs.declared.replies.Refusal.{Refusal}
use Rattle.machine_model.specs.Replies.{Handed}
use Rattle.process_core.specs.Answers.{after_call}
use Rattle.process_core.specs.Cores.{CoreState, courses_in, moment_of, relation}
use Rattle.engine_steps.specs.Targets.{targets_of}
use Rattle.engine_steps.specs.Engines.{EngineState}
use Rattle.engine_steps.specs.Rooms.{MakesRoomFor}
use Rattle.process_engine.specs.Finishing.{is_barred}
use Rattle.process_engine.specs.declared.gates.Answer.{Answer}
use Rattle.process_engine.specs.Pieces.{numbers_of}
use Rattle.process_engine.specs.Queueing.{Leaves, Queues, RepliesAs, reply_to, taken_by}
use Rattle.process_engine.specs.Queues.{pieces_of}
use Rattle.process_engine.specs.declared.replies.Queue.{Queue}
use Rattle.process_engine.specs.declared.replies.Queue.TheVariants as queues
use Rattle.session_play.specs.Answering.{queue_alone}
use Rattle.session_play.specs.Pieces.{full_of, number_of, session_of}
use Rattle.session_play.specs.Playing.{SessionState, core_after, queue_with, reply_to_queue}

-- the numbers of what is queued
pub numbers_are : (group : List Handed) → numbers_of (pieces_of group) ≡ map number_of group
numbers_are [] = refl
numbers_are (d ∷ group) = ap (λ ns. number_of d ∷ ns) (numbers_are group)

-- a session of these parts; sessions of the same parts are the same
abbrev pub session_by : CoreState → List ℕ → List ℕ → SessionState
session_by core us gs = record { core = core; unfinished = us; group = gs }

pub same_session : (a b : CoreState) (us vs gs hs : List ℕ) → a ≡ b → us ≡ vs → gs ≡ hs
    → session_by a us gs ≡ session_by b vs hs
same_session a b us vs gs hs cores unfinished groups = ap (λ x. session_by x us gs) cores ∙ (ap (λ x. session_by b x gs) unfinished ∙ ap (λ x. session_by b vs x) groups)

-- no process starts
pub plans_after : (core : CoreState) (n : ℕ) (r : Reply) → (core_after core n r).plans ≡ core.plans
plans_after core n (groups.refused r) = refl
plans_after core n groups.queued = refl
plans_after core n groups.full = refl
plans_after core n groups.over = refl
plans_after core n (groups.dropped k) = refl
plans_after core n groups.no_piece = refl
plans_after core n groups.no_refusal = refl

module _ {R B : Type 0} (e new : EngineState R B) (group rest : List Handed) (d : Handed) (answer : Answer) where
  abbrev s : SessionState
  s = record { core = e.core; unfinished = []; group = map number_of group }

  -- the machine's reply
  abbrev pub reply : Reply
  reply = reply_to_queue e.catalog s d.piece answer

  reply_is : reply_to e group d answer ≡ reply
  reply_is = ap (λ ns. queue_reply (relation e.core) (targets_of e.catalog.ops) (courses_in e.core) (moment_of e.core) ns d.piece.number (taken_by answer (is_barred e d.piece))) (numbers_are group)

  abbrev after : Reply → SessionState
  after r = (queue_with s d.piece r).state

  room_core : (MakesRoomFor e new d.piece ⊎ (new ≡ e)) → new.core ≡ e.core
  room_core (inl made) = made.core
  room_core (inr same) = ap (λ (x : EngineState R B). x.core) same

  grown : rest ≡ group ++ d ∷ [] → map number_of rest ≡ map number_of group ++ number_of d ∷ []
  grown is = ap (map number_of) is ∙ map-append number_of group (d ∷ [])

  kept : rest ≡ group → map number_of rest ≡ map number_of group ++ []
  kept is = ap (map number_of) is ∙ sym (append-nil (map number_of group))

  core_same : new ≡ e → new.core ≡ e.core
  core_same same = ap (λ (x : EngineState R B). x.core) same

  led : (found : Queue) (r : Reply) → RepliesAs found r → Leaves e new group rest d found → ((q : Handed) → found ≢ queues.NoMemory q) → session_of new.core (option_to_list (full_of found)) rest ≡ after r
  led queues.Queued r is left memory = subst (λ x. session_of new.core [] rest ≡ after x) (sym is) (same_session new.core e.core [] [] (map number_of rest) (map number_of group ++ d.piece.number ∷ []) (room_core left.0) refl (grown left.1))
  led (queues.Full q) r is left memory =
      subst (λ x. session_of new.core (q ∷ []) rest ≡ after x) (sym is)
      (same_session new.core e.core (number_of q ∷ []) (number_of d ∷ []) (map number_of rest) (map number_of group ++ []) (core_same left.0) (ap (λ x. number_of x ∷ []) left.2) (kept left.1))
  led (queues.Retry k) r is left memory =
      subst (λ x. session_of new.core [] rest ≡ after x) (sym is)
      (same_session new.core (after_call e.core (finish d.piece.number Refused)) [] [] (map number_of rest) (map number_of group ++ []) (ap (λ (x : EngineState R B). x.core) left.0) refl (kept left.1))
  led queues.Failed r is left memory = ⊎_elim failed failed is
    where
      failed : {w : Refusal} → r ≡ groups.refused w → session_of new.core [] rest ≡ after r
      failed at =
          subst (λ x. session_of new.core [] rest ≡ after x) (sym at)
          (same_session new.core (after_call e.core (finish d.piece.number Refused)) [] [] (map number_of rest) (map number_of group ++ []) (ap (λ (x : EngineState R B). x.core) left.0) refl (kept left.1))
  led queues.Over r is left memory = subst (λ x. session_of new.core [] rest ≡ after x) (sym is) (same_session new.core e.core [] [] (map number_of rest) (map number_of group ++ []) (core_same left.0) refl (kept left.1))
  led (queues.Dropped k) r is left memory = subst (λ x. session_of new.core [] rest ≡ after x) (sym is) (same_session new.core e.core [] [] (map number_of rest) (map number_of group ++ []) (core_same left.0) refl (kept left.1))
  led queues.Exhausted r is left memory =
      subst (λ x. session_of new.core [] rest ≡ after x) (sym is)
      (same_session new.core (after_call e.core (finish d.piece.number Refused)) [] [] (map number_of rest) (map number_of group ++ []) (ap (λ (x : EngineState R B). x.core) left.0) refl (kept left.1))
  led (queues.NoMemory q) r is left memory = absurd (memory q refl)
  led (queues.Closed n) r is left memory = absurd is

  module _ (found : Queue) (does : Queues e new group rest d answer found) where
    pub replies : RepliesAs found reply
    replies = subst (RepliesAs found) reply_is does.reply

    -- Where memory was there, the line led to what its reply says.
    pub queued_state : ((q : Handed) → found ≢ queues.NoMemory q) → session_of new.core (option_to_list (full_of found)) rest ≡ (queue_alone e.catalog e.core group d.piece answer).state
    queued_state memory = led found reply replies does.left memory

    -- The engine was open.
    pub not_closed : (n : ℕ) → found ≢ queues.Closed n
    not_closed n closed = subst (λ f. RepliesAs f reply) closed replies

    no_memory_by : (f : Queue) → Leaves e new group rest d f → (q : Handed) → f ≡ queues.NoMemory q → new.core ≡ e.core
    no_memory_by (queues.NoMemory p) left q is = left.0.core
    no_memory_by queues.Queued left q is = absurd cc
    no_memory_by (queues.Full p) left q is = absurd cc
    no_memory_by (queues.Retry k) left q is = absurd cc
    no_memory_by queues.Failed left q is = absurd cc
    no_memory_by queues.Over left q is = absurd cc
    no_memory_by (queues.Dropped k) left q is = absurd cc
    no_memory_by queues.Exhausted left q is = absurd cc
    no_memory_by (queues.Closed n) left q is = absurd cc

    -- The machine went on by the line, or stayed.
    led_or_left : (f : Queue) → f ≡ found → (new.core ≡ e.core) ⊎ (new.core ≡ (queue_alone e.catalog e.core group d.piece answer).state.core)
    led_or_left (queues.NoMemory q) is = inl (no_memory_by found does.left q (sym is))
    led_or_left queues.Queued is = inr (ap (λ (x : SessionState). x.core) (queued_state (λ q no. absurd (let two : queues.Queued ≡ queues.NoMemory q = is ∙ no in cc))))
    led_or_left (queues.Full p) is = inr (ap (λ (x : SessionState). x.core) (queued_state (λ q no. absurd (let two : queues.Full p ≡ queues.NoMemory q = is ∙ no in cc))))
    led_or_left (queues.Retry k) is = inr (ap (λ (x : SessionState). x.core) (queued_state (λ q no. absurd (let two : queues.Retry k ≡ queues.NoMemory q = is ∙ no in cc))))
    led_or_left queues.Failed is = inr (ap (λ (x : SessionState). x.core) (queued_state (λ q no. absurd (let two : queues.Failed ≡ queues.NoMemory q = is ∙ no in cc))))
    led_or_left queues.Over is = inr (ap (λ (x : SessionState). x.core) (queued_state (λ q no. absurd (let two : queues.Over ≡ queues.NoMemory q = is ∙ no in cc))))
    led_or_left (queues.Dropped k) is = inr (ap (λ (x : SessionState). x.core) (queued_state (λ q no. absurd (let two : queues.Dropped k ≡ queues.NoMemory q = is ∙ no in cc))))
    led_or_left queues.Exhausted is = inr (ap (λ (x : SessionState). x.core) (queued_state (λ q no. absurd (let two : queues.Exhausted ≡ queues.NoMemory q = is ∙ no in cc))))
    led_or_left (queues.Closed n) is = absurd (not_closed n (sym is))

    pub queued_or_left : (new.core ≡ e.core) ⊎ (new.core ≡ (queue_alone e.catalog e.core group d.piece answer).state.core)
    queued_or_left = led_or_left found refl
