-- What a worker's seat knows after a turn.
use Rattle.std.proofs.Common.{◌≡◌, ◌⊎◌, inl, inr, ⊎_elim, ◌∙◌, ◌<◌, ◌≤◌, ℕ, ◌+◌, ◌-◌, ◌^◌, List, [], ◌∷◌, ◌++◌, length, unwrap_or, Option as Maybe, Some, Ok, Err, refl, sym, ap, subst, arith, append_assoc}
use Rattle.std.proofs.lemmas.List.{length-append}
use Rattle.process_disk.specs.Disk.{Disk}
use Rattle.process_tree.proofs.Every.{Each-append, Each-weaker}
use Rattle.resource_box.specs.declared.resource.Resource.{Ghosts as Resources}
use Rattle.machine_model.specs.Replies.{Handed}
use Rattle.process_core.specs.Cores.{CoreState}
use Rattle.process_core.specs.declared.replies.Next.TheVariants as core
use Rattle.process_engine.specs.declared.gates.Answer.{Answer}
use Rattle.process_engine.specs.declared.gates.Answer.TheVariants.{Done, Refused}
use Rattle.engine_steps.specs.Engines.{EngineState}
use Rattle.engine_calls.specs.GateAnswers.{GateCounts, IsHandedAs, count_after}
use Rattle.worker_gate.specs.declared.alone.RunOutcome.{RunOutcome}
use Rattle.worker_gate.proofs.RanRuns.{count-after}
use Rattle.history_lock.specs.declared.view.View.{View}
use Rattle.history_lock.proofs.Sums.{weigh-append}
use Rattle.shared_engine.specs.declared.entries.QueueSaid.{QueueSaid}
use Rattle.shared_engine.specs.declared.entries.TurnEntry.{TurnEntry}
use Rattle.shared_engine.specs.declared.entries.TurnEntry.TheVariants.{Next, Queue, Flush}
use Rattle.shared_engine.specs.declared.shared.SharedEngine.{SharedEngine}
use Rattle.shared_engine.specs.Progress.{opened}
use Rattle.shared_engine.specs.Seats.{HasAdded, HasOpened, core_at}
use Rattle.shared_engine.specs.Shared.{IsOpening}
use Rattle.shared_engine.specs.declared.entries.FlushSaid.{FlushSaid}
use Rattle.shared_engine.specs.declared.outcomes.NextTurn.{NextTurn}
use Rattle.shared_engine.specs.declared.outcomes.NextTurn.TheVariants as turn
use Rattle.shared_engine.specs.Outcomes.{IsGivenBy, next_entry}
use Rattle.shared_engine.specs.Tallies.{IsAnswerTo, gate_asked, gate_refused}
use Rattle.shared_engine.proofs.Tallies.{asked_given, given_handed}
use Rattle.shared_engine.proofs.HandedLater.{asked_grows, grows_later, handed_later, requested_grows}
use Rattle.thread_workers.specs.Workers.{AreWorked, GoesUp, HasAnswered, HasGot, HasStopped, IsTally, IsWorked, Stops, WorkerKnows, asks_for, asks_in}

pub goes_up-snoc : {X : Type 0} (low high n top : ℕ) (x : X) (ps : List (ℕ × X)) → GoesUp low ps high → high < n → n ≤ top → GoesUp low (ps ++ (n, x) ∷ []) top
goes_up-snoc low high n top x [] up l m = (omega (arith, up, l), m)
goes_up-snoc low high n top x (p ∷ ps) up l m = (up.0, goes_up-snoc p.0 high n top x ps up.1 l m)

module _ {R B : Type 0} (answers : Handed → Maybe Answer) (o : EngineState R B) (es more : List TurnEntry) where
  still_worked : (e : TurnEntry) → IsWorked answers (core_at o es) e → IsWorked answers (core_at o (es ++ more)) e
  still_worked (Next said) is = requested_grows (core_at o es) (core_at o (es ++ more)) (grows_later (opened o) es more) (Next said) is
  still_worked (Queue n answer reply) is = (is.0, is.1, handed_later (opened o) es more is.0 is.2, is.3)
  still_worked (Flush said) is = tt

  -- who worked has still worked, as more is kept
  pub worked_later : (ps : List (ℕ × TurnEntry)) → AreWorked answers (core_at o es) ps → AreWorked answers (core_at o (es ++ more)) ps
  worked_later ps are = Each-weaker (λ p. IsWorked answers (core_at o es) p.1) (λ p. IsWorked answers (core_at o (es ++ more)) p.1) (λ p is. still_worked p.1 is) ps are

  asks_later : (ps : List (ℕ × TurnEntry)) → AreWorked answers (core_at o es) ps → asks_in (core_at o (es ++ more)) ps ≡ asks_in (core_at o es) ps
  asks_later [] are = refl
  asks_later (p ∷ ps) are = let first = ask_later p.1 are.0 in let rest = asks_later ps are.1 in omega (arith, first, rest)
    where
      ask_later : (e : TurnEntry) → IsWorked answers (core_at o es) e → gate_asked (core_at o (es ++ more)) e ≡ gate_asked (core_at o es) e
      ask_later (Next said) is = asked_grows (core_at o es) (core_at o (es ++ more)) (grows_later (opened o) es more) (Next said) is
      ask_later (Queue n a reply) is = refl
      ask_later (Flush said) is = refl

  -- nor does the tally change
  pub tally_later : (owed : ℕ) (ps : List (ℕ × TurnEntry)) (before after : GateCounts) → AreWorked answers (core_at o es) ps → IsTally owed (core_at o es) ps before after
      → IsTally owed (core_at o (es ++ more)) ps before after
  tally_later owed ps before after are tally = record { times = tally.times; got = asks_later ps are ∙ tally.got; asked = tally.asked; counted = tally.counted; later = tally.later }

-- a gate that was not asked
pub tally_none : (c : CoreState) (count : GateCounts) → IsTally 0 c [] count count
tally_none c count = record { times = 0; got = refl; asked = refl; counted = λ low. omega arith; later = omega arith }

-- what one more entry adds to a tally
module _ (c : CoreState) (ps : List (ℕ × TurnEntry)) (n : ℕ) (e : TurnEntry) (before now : GateCounts) where
  -- a request, of which the gate is still to be asked for what it handed out
  pub tally_next : (owed : ℕ) → gate_asked c e ≡ owed → gate_refused e ≡ 0 → IsTally 0 c ps before now → IsTally owed c (ps ++ (n, e) ∷ []) before now
  tally_next owed asks none tally =
      let got = weigh-append (λ m f. gate_asked c f) ps ((n, e) ∷ []) in
      let told = weigh-append (λ m f. gate_refused f) ps ((n, e) ∷ []) in
      record {
        times = tally.times;
        got = omega (arith, got, asks, tally.got);
        asked = tally.asked;
        counted = λ low. let counted = tally.counted low in omega (arith, counted, told, none);
        later = tally.later;
      }

  -- the queueing of a piece, for which the gate was asked
  pub tally_queue : (d : Handed) (a : Answer) (later : GateCounts) → gate_asked c e ≡ 0 → gate_refused e ≤ 1 → (gate_refused e ≡ 0) ⊎ (a ≡ Refused) → HasAnswered d a now later
      → IsTally (asks_for d) c ps before now → IsTally 0 c (ps ++ (n, e) ∷ []) before later
  tally_queue d a later none one only answered tally =
      let got = weigh-append (λ m f. gate_asked c f) ps ((n, e) ∷ []) in
      let told = weigh-append (λ m f. gate_refused f) ps ((n, e) ∷ []) in
      record {
        times = tally.times + asks_for d;
        got = omega (arith, got, none, tally.got);
        asked = answered.asked ∙ (ap (λ k. count_after k (asks_for d)) tally.asked ∙ sym (count-after before.asked tally.times (asks_for d)));
        counted = λ low.
            let low_now : now.refusals < 2 ^ 64 - 1 = omega (arith, low, answered.later) in
            let counted = tally.counted low_now in
            ⊎_elim (λ nothing. omega (arith, counted, told, nothing, answered.later)) (λ refuses. let rose = answered.counted refuses in omega (arith, counted, told, one, rose, low)) only;
        later = omega (arith, tally.later, answered.later);
      }

-- the queueing of a piece counts as a refusal where its work was refused
pub refused_or_not : (n : ℕ) (a : Answer) (reply : QueueSaid) → (gate_refused (Queue n a reply) ≡ 0) ⊎ (a ≡ Refused)
refused_or_not n Done reply = inl refl
refused_or_not n Refused reply = inr refl

pub refused_at_most : (n : ℕ) (a : Answer) (reply : QueueSaid) → gate_refused (Queue n a reply) ≤ 1
refused_at_most n Done reply = omega arith
refused_at_most n Refused reply = omega arith

-- how often the gate is to be asked for what a request got
abbrev pub owed_by : NextTurn → ℕ
owed_by (turn.Answered (Ok (core.Piece d))) = asks_for d
owed_by (turn.Answered (Ok (core.Wait w))) = 0
owed_by (turn.Answered (Ok core.AllEnded)) = 0
owed_by (turn.Answered (Ok (core.Stuck i))) = 0
owed_by (turn.Answered (Err e)) = 0
owed_by (turn.Flushed f) = 0

module _ {R B : Type 0} (disk : R → Disk) (box : Resources B) where
  -- whatever state the seat says the desk was opened with, that is an opening
  pub sound_of : (v : View (SharedEngine R B) TurnEntry) (o : SharedEngine R B) → HasOpened disk box v → v.opening ≡ Some o → IsOpening disk box o
  sound_of v o opened known = subst (λ (z : SharedEngine R B). IsOpening disk box z) (ap (λ m. unwrap_or m o) (sym opened.known ∙ known)) opened.sound

  -- a turn later its opening is the same
  abbrev pub opened_still : (v w : View (SharedEngine R B) TurnEntry) → w.opening ≡ v.opening → HasOpened disk box v → HasOpened disk box w
  opened_still v w same opened = record { opening = opened.opening; known = same ∙ opened.known; sound = opened.sound }

  module _ (answers : Handed → Maybe Answer) where
    -- A turn adds an entry that was worked, by which the tally changes.
    pub knows_added : (e : TurnEntry) (owed owed' : ℕ) (begun before now : GateCounts) (v w : View (SharedEngine R B) TurnEntry) (knows : WorkerKnows disk box answers owed begun before v) → HasAdded e v w
        → IsWorked answers (core_at knows.opened.opening.engine w.seen) e
        → ((n : ℕ) → IsTally owed (core_at knows.opened.opening.engine w.seen) v.places begun before → IsTally owed' (core_at knows.opened.opening.engine w.seen) (v.places ++ (n, e) ∷ []) begun now)
        → WorkerKnows disk box answers owed' begun now w
    knows_added e owed owed' begun before now v w knows added worked changes =
        let o = knows.opened.opening.engine in
        let n = length (v.seen ++ added.meanwhile) + 1 in
        let long : length w.seen ≡ n = ap length added.seen ∙ length-append (v.seen ++ added.meanwhile) (e ∷ []) in
        let more : length (v.seen ++ added.meanwhile) ≡ length v.seen + length added.meanwhile = length-append v.seen added.meanwhile in
        let behind : w.seen ≡ v.seen ++ (added.meanwhile ++ e ∷ []) = added.seen ∙ append_assoc v.seen added.meanwhile (e ∷ []) in
        let tally : IsTally owed (core_at o w.seen) v.places begun before =
        subst (λ es. IsTally owed (core_at o es) v.places begun before) (sym behind) (tally_later answers o v.seen (added.meanwhile ++ e ∷ []) owed v.places begun before knows.worked knows.tally) in
        let still : AreWorked answers (core_at o w.seen) v.places = subst (λ es. AreWorked answers (core_at o es) v.places) (sym behind) (worked_later answers o v.seen (added.meanwhile ++ e ∷ []) v.places knows.worked) in
        record {
          opened = opened_still v w added.opening knows.opened;
          order = subst (λ (ps : List (ℕ × TurnEntry)). GoesUp 0 ps (length w.seen)) (sym added.places)
              (goes_up-snoc 0 (length v.seen) n (length w.seen) e v.places knows.order (omega (arith, more)) (omega (arith, long)));
          worked = subst (AreWorked answers (core_at o w.seen)) (sym added.places)
              (Each-append (λ p. IsWorked answers (core_at o w.seen) p.1) v.places ((n, e) ∷ []) still (worked, tt));
          tally = subst (λ ps. IsTally owed' (core_at o w.seen) ps begun now) (sym added.places) (changes n tally);
        }

    asked_so : (c : CoreState) (r : NextTurn) → IsGivenBy c r → IsWorked answers c (next_entry r)
    asked_so c (turn.Answered (Ok r)) given = given_handed c r given
    asked_so c (turn.Answered (Err e)) given = tt
    asked_so c (turn.Flushed f) given = tt

    owed_so : (c : CoreState) (r : NextTurn) → IsGivenBy c r → gate_asked c (next_entry r) ≡ owed_by r
    owed_so c (turn.Answered (Ok (core.Piece d))) given = asked_given c d given
    owed_so c (turn.Answered (Ok (core.Wait w))) given = refl
    owed_so c (turn.Answered (Ok core.AllEnded)) given = refl
    owed_so c (turn.Answered (Ok (core.Stuck i))) given = refl
    owed_so c (turn.Answered (Err e)) given = refl
    owed_so c (turn.Flushed f) given = refl

    none_refused : (r : NextTurn) → gate_refused (next_entry r) ≡ 0
    none_refused (turn.Answered r) = refl
    none_refused (turn.Flushed f) = refl

    -- After a request the gate is still to be asked for what that got.
    pub knows_asked : (r : NextTurn) (owed : ℕ) (begun now : GateCounts) (v w : View (SharedEngine R B) TurnEntry) → owed_by r ≡ owed → HasAdded (next_entry r) v w
        → ((o : SharedEngine R B) → v.opening ≡ Some o → IsOpening disk box o → IsGivenBy (core_at o.engine w.seen) r)
        → WorkerKnows disk box answers 0 begun now v → WorkerKnows disk box answers owed begun now w
    knows_asked r owed begun now v w owes added handed knows =
        let opened = knows.opened in
        let c = core_at opened.opening.engine w.seen in
        let given = handed opened.opening opened.known opened.sound in
        let e = next_entry r in
        knows_added e 0 owed begun now now v w knows added (asked_so c r given) (λ n tally. tally_next c v.places n e begun now owed (owed_so c r given ∙ owes) (none_refused r) tally)

    -- A flush changes nothing of what it knows.
    pub knows_flushed : (said : FlushSaid) (begun now : GateCounts) (v w : View (SharedEngine R B) TurnEntry) → HasAdded (Flush said) v w
        → WorkerKnows disk box answers 0 begun now v → WorkerKnows disk box answers 0 begun now w
    knows_flushed said begun now v w added knows =
        let c = core_at knows.opened.opening.engine w.seen in
        knows_added (Flush said) 0 0 begun now now v w knows added tt (λ n tally. tally_next c v.places n (Flush said) begun now 0 refl refl tally)

    -- A piece that the seat had got, queued by what came of its work, was worked on.
    pub queue_worked : (d : Handed) (a : Answer) (reply : QueueSaid) (v w : View (SharedEngine R B) TurnEntry) (o : EngineState R B) → HasAdded (Queue d.piece.number a reply) v w
        → IsHandedAs (core_at o v.seen) d → IsAnswerTo answers d a → IsWorked answers (core_at o w.seen) (Queue d.piece.number a reply)
    queue_worked d a reply v w o added handed answered =
        let e = Queue d.piece.number a reply in
        let behind : w.seen ≡ v.seen ++ (added.meanwhile ++ e ∷ []) = added.seen ∙ append_assoc v.seen added.meanwhile (e ∷ []) in
        (d, refl, subst (λ es. IsHandedAs (core_at o es) d) (sym behind) (handed_later (opened o) v.seen (added.meanwhile ++ e ∷ []) d handed), answered)

    -- After that its gate has answered for it.
    pub knows_queued : (d : Handed) (a : Answer) (reply : QueueSaid) (begun before now : GateCounts) (v w : View (SharedEngine R B) TurnEntry) → HasAdded (Queue d.piece.number a reply) v w → HasGot d v
        → IsAnswerTo answers d a → HasAnswered d a before now → WorkerKnows disk box answers (asks_for d) begun before v → WorkerKnows disk box answers 0 begun now w
    knows_queued d a reply begun before now v w added got answered counts knows =
        let opened = knows.opened in
        let n = d.piece.number in
        let c = core_at opened.opening.engine w.seen in
        let e = Queue n a reply in
        knows_added e (asks_for d) 0 begun before now v w knows added (queue_worked d a reply v w opened.opening.engine added (got opened.opening opened.known) answered)
        (λ m tally. tally_queue c v.places m e begun before d a now refl (refused_at_most n a reply) (refused_or_not n a reply) counts tally)

    -- One that found the group full is done, and counts nothing when it is queued again.
    pub knows_again : (d : Handed) (reply : QueueSaid) (begun now : GateCounts) (v w : View (SharedEngine R B) TurnEntry) → HasAdded (Queue d.piece.number Done reply) v w → HasGot d v → IsAnswerTo answers d Done
        → WorkerKnows disk box answers 0 begun now v → WorkerKnows disk box answers 0 begun now w
    knows_again d reply begun now v w added got answered knows =
        let opened = knows.opened in
        let c = core_at opened.opening.engine w.seen in
        let e = Queue d.piece.number Done reply in
        knows_added e 0 0 begun now now v w knows added (queue_worked d Done reply v w opened.opening.engine added (got opened.opening opened.known) answered)
        (λ n tally. tally_next c v.places n e begun now 0 refl refl tally)

    -- a seat with no entry of its own yet
    pub knows_new : (count : GateCounts) (v : View (SharedEngine R B) TurnEntry) → HasOpened disk box v → v.places ≡ [] → WorkerKnows disk box answers 0 count count v
    knows_new count v opened none = record {
      opened = opened;
      order = subst (λ (ps : List (ℕ × TurnEntry)). GoesUp 0 ps (length v.seen)) (sym none) (omega arith);
      worked = subst (AreWorked answers (core_at opened.opening.engine v.seen)) (sym none) tt;
      tally = subst (λ ps. IsTally 0 (core_at opened.opening.engine v.seen) ps count count) (sym none) (tally_none (core_at opened.opening.engine v.seen) count);
    }

module _ {R B : Type 0} where
  -- what a seat has got it has still got a turn later
  pub still_got : (d : Handed) (e : TurnEntry) (v w : View (SharedEngine R B) TurnEntry) → HasAdded e v w → HasGot d v → HasGot d w
  still_got d e v w added got o known =
      let behind : w.seen ≡ v.seen ++ (added.meanwhile ++ e ∷ []) = added.seen ∙ append_assoc v.seen added.meanwhile (e ∷ []) in
      subst (λ es. IsHandedAs (core_at o.engine es) d) (sym behind) (handed_later (opened o.engine) v.seen (added.meanwhile ++ e ∷ []) d (got o (sym added.opening ∙ known)))

  -- and so has what a turn got
  pub got_given : (d : Handed) (v w : View (SharedEngine R B) TurnEntry) → w.opening ≡ v.opening → ((o : SharedEngine R B) → v.opening ≡ Some o → IsHandedAs (core_at o.engine w.seen) d) → HasGot d w
  got_given d v w same given o known = given o (sym same ∙ known)

  -- who stops by the entry of a turn has stopped by an entry of its own
  pub stopped_by : (outcome : RunOutcome) (e : TurnEntry) (v w : View (SharedEngine R B) TurnEntry) → HasAdded e v w → Stops outcome e → HasStopped outcome w.places
  stopped_by outcome e v w added stops = ((length (v.seen ++ added.meanwhile) + 1, e), (v.places, [], added.places), stops)
