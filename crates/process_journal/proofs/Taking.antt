-- What a body makes of a history that is read, and why it is refused.
use Rattle.std.specs.Prelude.{IfOk, IfErr}
use Rattle.std.proofs.Common.{◌≡◌, ◌⊎◌, ℕ, false, List, [], ◌∷◌, ◌++◌, Option, Some, Result, Ok, Err, refl, sym, ap, ◌∙◌, subst, inl, inr, ⊎_elim}
use Rattle.process_tree.specs.declared.plan.Plan.{Plan}
use Rattle.schedule_model.specs.declared.event.Event.{Event}
use Rattle.schedule_model.specs.declared.history.History.{History}
use Rattle.commute_table.specs.declared.catalog.Catalog.{Catalog}
use Rattle.journal_records.specs.declared.record.Record.{Record}
use Rattle.journal_records.specs.declared.record.Record.TheVariants as records
use Rattle.journal_records.specs.Bytes.{bytes_of, record_of}
use Rattle.process_journal.specs.declared.errors.JournalError.{JournalError}
use Rattle.process_journal.specs.declared.errors.JournalError.TheVariants.{BadRecord, BadHistory, NoMemory}
use Rattle.process_journal.specs.declared.replay.Replay.{Replay}
use Rattle.process_journal.specs.Plans.{IsPlanOfText}
use Rattle.process_journal.specs.Bodies.{journal_bodies, with_event, with_start}
use Rattle.process_journal.specs.Journals.{is_allowed, IsHistoryUnder, IsMadeBy}
use Rattle.process_journal.specs.Reading.{planned_record}
use Rattle.process_journal.specs.Replays.{IsFaultOf}
use Rattle.process_journal.proofs.BodiesPushed.{bodies_made}

-- operations aren't among the bytes
bytes_planned : (h : History) (r : Record) → bytes_of (planned_record h r) ≡ bytes_of r
bytes_planned h (records.Setup catalog) = refl
bytes_planned h (records.Start i text) = refl
bytes_planned h (records.Act e) = refl
bytes_planned h (records.End i) = refl

-- what a record makes of a history has its bytes as the last body
pub body_taken : (c : Catalog) (h : History) (r : Record) (body : List ℕ) (result : Result Replay JournalError) → IsHistoryUnder c h → bytes_of r ≡ body
    → IfOk result (λ after. IsMadeBy c (planned_record h r) h after.history) → IfOk result (λ after. journal_bodies c after.history ≡ journal_bodies c h ++ body ∷ [])
body_taken c h r body (Ok after) good bytes made = bodies_made c (planned_record h r) h after.history good made ∙ ap (λ b. journal_bodies c h ++ b ∷ []) (bytes_planned h r ∙ bytes)
body_taken c h r body (Err e) good bytes made = tt

-- bytes are of one record at most
pub one_record : (body : List ℕ) (r s : Record) → record_of body ≡ Some r → record_of body ≡ Some s → r ≡ s
one_record body r s one two = by (sym one ∙ two)
  where
    by : (let o : Option Record = Some r in o ≡ Some s) → r ≡ s
    by e = cc

-- why an event is refused
pub event_refused : (c : Catalog) (h : History) (n : ℕ) (body : List ℕ) (r : Record) (e : Event) (result : Result Replay JournalError) → record_of body ≡ Some r
    → IsMadeBy c (planned_record h r) h (with_event h e) → IfErr result (λ why. (why ≡ NoMemory) ⊎ ((why ≡ BadHistory n) × (is_allowed c (with_event h e) ≡ false))) → IfErr result (IsFaultOf c h n body)
event_refused c h n body r e (Ok after) is made refused = tt
event_refused c h n body r e (Err why) is made refused =
    ⊎_elim (λ memory. subst (IsFaultOf c h n body) (sym memory) tt) (λ bad. subst (IsFaultOf c h n body) (sym bad.0) (refl, (with_event h e, (r, is, made), bad.1))) refused

-- why a start is
pub start_refused : (c : Catalog) (h : History) (n : ℕ) (body : List ℕ) (i : ℕ) (text : List ℕ) (result : Result Replay JournalError) → record_of body ≡ Some (records.Start i text)
    → IfErr result (λ why. (why ≡ NoMemory) ⊎ ((why ≡ BadRecord n) × ((p : Plan) → ¬ IsPlanOfText c text p))
    ⊎ ((why ≡ BadHistory n) × ((p : Plan) × IsPlanOfText c text p × (is_allowed c (with_start h i p) ≡ false)))) → IfErr result (IsFaultOf c h n body)
start_refused c h n body i text (Ok after) is refused = tt
start_refused c h n body i text (Err why) is refused =
    ⊎_elim (λ memory. subst (IsFaultOf c h n body) (sym memory) tt)
    (⊎_elim
    (λ bad. subst (IsFaultOf c h n body) (sym bad.0) (refl, no_form bad.1))
    (λ bad. subst (IsFaultOf c h n body) (sym bad.0) (refl, (with_start h i bad.1.0, (records.Start i text, is, (bad.1.0, bad.1.1, refl)), bad.1.2)))) refused
  where
    no_form : ((p : Plan) → ¬ IsPlanOfText c text p) → (after : History) → ¬ ((r : Record) × (record_of body ≡ Some r) × IsMadeBy c (planned_record h r) h after)
    no_form none after (r, read, made) =
        let own : (p : Plan) × IsPlanOfText c text p × (after ≡ with_start h i p) = subst (λ s. IsMadeBy c (planned_record h s) h after) (one_record body r (records.Start i text) read is) made in
        none own.0 own.1

-- what a start of a plan makes is a start of its text,
pub started_so : (c : Catalog) (h : History) (i : ℕ) (text : List ℕ) (p : Plan) (result : Result Replay JournalError) → IsPlanOfText c text p → IfOk result (λ after. after.history ≡ with_start h i p)
    → IfOk result (λ after. (q : Plan) × IsPlanOfText c text q × (after.history ≡ with_start h i q))
started_so c h i text p (Ok after) own is = (p, own, is)
started_so c h i text p (Err e) own is = tt

-- and is refused as that
pub start_refused_so : (c : Catalog) (h : History) (n i : ℕ) (text : List ℕ) (p : Plan) (result : Result Replay JournalError) → IsPlanOfText c text p
    → IfErr result (λ why. (why ≡ NoMemory) ⊎ ((why ≡ BadHistory n) × (is_allowed c (with_start h i p) ≡ false)))
    → IfErr result (λ why. (why ≡ NoMemory) ⊎ ((why ≡ BadRecord n) × ((q : Plan) → ¬ IsPlanOfText c text q))
    ⊎ ((why ≡ BadHistory n) × ((q : Plan) × IsPlanOfText c text q × (is_allowed c (with_start h i q) ≡ false))))
start_refused_so c h n i text p (Ok after) own refused = tt
start_refused_so c h n i text p (Err e) own refused = ⊎_elim (λ memory. inl memory) (λ bad. inr (inr (bad.0, (p, own, bad.1)))) refused
