-- What a core handed out in one turn it has handed out in each later one.
use Rattle.std.proofs.Common.{◌≡◌, ◌∙◌, ℕ, Bool, true, false, eqb, List, [], ◌∷◌, ◌++◌, filter, Some, if◌then◌else◌, refl, ap, sym, subst, append-nil, append_assoc}
use Rattle.process_tree.specs.declared.plan.Plan.{Plan}
use Rattle.process_tree.specs.declared.play.Outcome.TheVariants as outcome
use Rattle.schedule_model.specs.Course.{courses_of}
use Rattle.machine_model.specs.declared.kept.Kept.{Kept}
use Rattle.machine_model.specs.declared.kept.Kept.TheVariants.{Start, Hand, Effect, Refuse, Abort, Victim, Restart}
use Rattle.machine_model.specs.declared.kept.Work.{Work}
use Rattle.machine_model.specs.Calls.{Call, finish, next}
use Rattle.machine_model.specs.Groups.{Targets}
use Rattle.machine_model.specs.Moment.{Piece}
use Rattle.machine_model.specs.Pieces.{piece_of, refusals, runs}
use Rattle.machine_model.specs.Replies.{Handed, refuse_by}
use Rattle.process_core.specs.Answers.{after_call, answer_in}
use Rattle.machine_model.proofs.TidyMoments.{piece_of-more}
use Rattle.process_core.specs.Cores.{CoreState, courses_in, moment_of}
use Rattle.engine_calls.specs.GateAnswers.{IsHandedAs, kept_before}
use Rattle.engine_calls.proofs.HandedPieces.{stays_handed}
use Rattle.shared_engine.specs.declared.entries.NextSaid.{NextSaid}
use Rattle.shared_engine.specs.declared.entries.NextSaid.TheVariants as asked
use Rattle.shared_engine.specs.declared.entries.QueueSaid.{QueueSaid}
use Rattle.shared_engine.specs.declared.entries.QueueSaid.TheVariants as put
use Rattle.shared_engine.specs.declared.entries.FlushSaid.{FlushSaid}
use Rattle.shared_engine.specs.declared.entries.FlushSaid.TheVariants as flushed
use Rattle.shared_engine.specs.declared.entries.TurnEntry.{TurnEntry}
use Rattle.shared_engine.specs.declared.entries.TurnEntry.TheVariants.{Next, Queue, Flush}
use Rattle.process_engine.specs.Pieces.{after_effects}
use Rattle.shared_engine.specs.Progress.{AreTold, Progress, after, after_all, after_flush, after_next, after_queue}
use Rattle.shared_engine.specs.Tallies.{IsOfHanded, gate_asked, is_worked_on}

-- a core keeps more, and none started
pub record Grows (c d : CoreState) : Type 0 where
  pub plans : d.plans ≡ c.plans
  pub added : List Kept
  pub kept : d.kept ≡ c.kept ++ added

grows_none : (c : CoreState) → Grows c c
grows_none c = record { plans = refl; added = []; kept = sym (append-nil c.kept) }

grows_call : (c : CoreState) (call : Call) → Grows c (after_call c call)
grows_call c call = record { plans = refl; added = (answer_in c call).kept; kept = refl }

grows_then : (b c d : CoreState) → Grows b c → Grows c d → Grows b d
grows_then b c d one two = record {
  plans = two.plans ∙ one.plans;
  added = one.added ++ two.added;
  kept = two.kept ∙ (ap (λ ks. ks ++ two.added) one.kept ∙ append_assoc b.kept one.added two.added);
}

grows_next : (c : CoreState) (said : NextSaid) → Grows c (after_next c said)
grows_next c (asked.Piece n) = grows_call c next
grows_next c (asked.Wait w) = grows_call c next
grows_next c asked.AllEnded = grows_call c next
grows_next c (asked.Stuck i) = grows_call c next
grows_next c (asked.Closed k) = grows_none c

grows_queue : (c : CoreState) (n : ℕ) (said : QueueSaid) → Grows c (after_queue c n said)
grows_queue c n put.Queued = grows_none c
grows_queue c n (put.Full k) = grows_none c
grows_queue c n (put.Retry k) = grows_call c (finish n outcome.Refused)
grows_queue c n put.Failed = grows_call c (finish n outcome.Refused)
grows_queue c n put.Exhausted = grows_call c (finish n outcome.Refused)
grows_queue c n put.Over = grows_none c
grows_queue c n (put.Dropped k) = grows_none c
grows_queue c n (put.NoMemory k) = grows_none c
grows_queue c n (put.Closed k) = grows_none c

grows_effects : (c : CoreState) (ns : List ℕ) → Grows c (after_effects c ns)
grows_effects c [] = grows_none c
grows_effects c (n ∷ ns) =
    let next : CoreState = after_call c (finish n outcome.Done) in
    grows_then c next (after_effects next ns) (grows_call c (finish n outcome.Done)) (grows_effects next ns)

grows_flush : (p : Progress) (said : FlushSaid) → Grows p.core (after_flush p said).core
grows_flush p (flushed.Flushed n) = grows_effects p.core (filter (runs (moment_of p.core)) p.group)
grows_flush p flushed.DiskFault = grows_none p.core
grows_flush p (flushed.Closed k) = grows_none p.core

grows_entry : (p : Progress) (e : TurnEntry) → Grows p.core (after p e).core
grows_entry p (Next said) = grows_next p.core said
grows_entry p (Queue n answer reply) = grows_queue p.core n reply
grows_entry p (Flush said) = grows_flush p said

-- entry after entry
pub grows_all : (p : Progress) (es : List TurnEntry) → Grows p.core (after_all p es).core
grows_all p [] = grows_none p.core
grows_all p (e ∷ es) = grows_then p.core (after p e).core (after_all (after p e) es).core (grows_entry p e) (grows_all (after p e) es)

-- entries behind entries
pub after_all-append : (p : Progress) (es fs : List TurnEntry) → after_all p (es ++ fs) ≡ after_all (after_all p es) fs
after_all-append p [] fs = refl
after_all-append p (e ∷ es) fs = after_all-append (after p e) es fs

-- where entries lead is what they make of the beginning
pub led_to : (targets : Targets) (p : Progress) (es : List TurnEntry) (x : Progress) → AreTold targets p es x → x ≡ after_all p es
led_to targets p [] x are = are
led_to targets p (e ∷ es) x are = led_to targets (after p e) es x are.1

-- what was kept before a piece stays so, as more is kept behind it
before_step : (n a i b : ℕ) (w : Work) (ks js : List Kept) (p : Piece) (t : Bool) → (piece_of ks n ≡ Some p → kept_before n (ks ++ js) ≡ kept_before n ks)
    → (if t then Some (record { number = a; process = i; step = b; work = w }) else piece_of ks n) ≡ Some p
    → (if t then [] else Hand a i b w ∷ kept_before n (ks ++ js)) ≡ (if t then [] else Hand a i b w ∷ kept_before n ks)
before_step n a i b w ks js p true rest there = refl
before_step n a i b w ks js p false rest there = ap (λ xs. Hand a i b w ∷ xs) (rest there)

before_more : (n : ℕ) (ks js : List Kept) (p : Piece) → piece_of ks n ≡ Some p → kept_before n (ks ++ js) ≡ kept_before n ks
before_more n [] js p there = absurd cc
before_more n (Hand a i b w ∷ ks) js p there = before_step n a i b w ks js p (eqb a n) (before_more n ks js p) there
before_more n (Start j ∷ ks) js p there = ap (λ xs. Start j ∷ xs) (before_more n ks js p there)
before_more n (Effect q ∷ ks) js p there = ap (λ xs. Effect q ∷ xs) (before_more n ks js p there)
before_more n (Refuse q ∷ ks) js p there = ap (λ xs. Refuse q ∷ xs) (before_more n ks js p there)
before_more n (Abort j ∷ ks) js p there = ap (λ xs. Abort j ∷ xs) (before_more n ks js p there)
before_more n (Victim j ∷ ks) js p there = ap (λ xs. Victim j ∷ xs) (before_more n ks js p there)
before_more n (Restart ∷ ks) js p there = ap (λ xs. Restart ∷ xs) (before_more n ks js p there)

-- A piece that was handed out with what is told of it stays so.
pub handed_grows : (c d : CoreState) (h : Handed) → Grows c d → IsHandedAs c h → IsHandedAs d h
handed_grows c d h grows is =
    let p = h.piece in
    let before : kept_before p.number d.kept ≡ kept_before p.number c.kept = ap (kept_before p.number) grows.kept ∙ before_more p.number c.kept grows.added p is.handed in
    record {
      handed = stays_handed c d grows.added grows.kept p is.handed;
      told = ap (λ ks. record { piece = p; tried = refusals ks p.process p.step p.work; refuse = refuse_by (courses_in d) p.process p.step p.work }) before
          ∙ (ap (λ (ps : List Plan). record { piece = p; tried = refusals (kept_before p.number c.kept) p.process p.step p.work; refuse = refuse_by (courses_of ps) p.process p.step p.work }) grows.plans
          ∙ is.told);
    }

-- and so does what entries lead to, as more entries come
pub grows_later : (p : Progress) (es more : List TurnEntry) → Grows (after_all p es).core (after_all p (es ++ more)).core
grows_later p es more = subst (λ (q : Progress). Grows (after_all p es).core q.core) (sym (after_all-append p es more)) (grows_all (after_all p es) more)

-- what a request handed out is still handed out
pub requested_grows : (c d : CoreState) → Grows c d → (e : TurnEntry) → IsOfHanded c e → IsOfHanded d e
requested_grows c d grows (Next (asked.Piece n)) is = (is.0, ap (λ ks. piece_of ks n) grows.kept ∙ piece_of-more c.kept grows.added n is.0 is.1)
requested_grows c d grows (Next (asked.Wait w)) is = tt
requested_grows c d grows (Next asked.AllEnded) is = tt
requested_grows c d grows (Next (asked.Stuck i)) is = tt
requested_grows c d grows (Next (asked.Closed k)) is = tt
requested_grows c d grows (Queue n a reply) is = tt
requested_grows c d grows (Flush said) is = tt

-- and is the same piece
pub asked_grows : (c d : CoreState) → Grows c d → (e : TurnEntry) → IsOfHanded c e → gate_asked d e ≡ gate_asked c e
asked_grows c d grows (Next (asked.Piece n)) is = ap (λ o. if is_worked_on o then 1 else 0) (ap (λ ks. piece_of ks n) grows.kept ∙ piece_of-more c.kept grows.added n is.0 is.1 ∙ sym is.1)
asked_grows c d grows (Next (asked.Wait w)) is = refl
asked_grows c d grows (Next asked.AllEnded) is = refl
asked_grows c d grows (Next (asked.Stuck i)) is = refl
asked_grows c d grows (Next (asked.Closed k)) is = refl
asked_grows c d grows (Queue n a reply) is = refl
asked_grows c d grows (Flush said) is = refl

-- A piece that was handed out with what is told of it is so later.
pub handed_later : (p : Progress) (es more : List TurnEntry) (h : Handed) → IsHandedAs (after_all p es).core h → IsHandedAs (after_all p (es ++ more)).core h
handed_later p es more h is =
    subst (λ (q : Progress). IsHandedAs q.core h) (sym (after_all-append p es more)) (handed_grows (after_all p es).core (after_all (after_all p es) more).core h (grows_all (after_all p es) more) is)
