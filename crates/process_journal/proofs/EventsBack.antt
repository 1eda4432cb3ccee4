-- What the body of an event tells of it, and how the operations of its steps are known.
use Rattle.std.specs.Prelude.{⊤, IsTrue}
use Rattle.std.proofs.Common.{◌≡◌, List, [], ◌∷◌, ◌++◌, map, Some, refl, sym, ap, ◌∙◌}
use Rattle.std.proofs.lemmas.Bool.{and_parts}
use Rattle.process_tree.proofs.Entries.{same_access-true}
use Rattle.process_tree.specs.Entries.{access_of}
use Rattle.process_tree.specs.Conflicts.{same_access, Access}
use Rattle.process_text.proofs.Lines.{three}
use Rattle.process_tree.specs.Order.{Each}
use Rattle.process_tree.specs.declared.plan.Plan.{Plan}
use Rattle.process_tree.specs.declared.entry.Entry.{Entry}
use Rattle.schedule_model.specs.declared.event.Event.{Event}
use Rattle.schedule_model.specs.declared.event.Event.TheVariants.{Start, Act, End}
use Rattle.schedule_model.specs.Conflict.{ConflictRelation}
use Rattle.schedule_model.specs.Course.{Course, access_at}
use Rattle.schedule_model.specs.Histories.{is_active}
use Rattle.schedule_model.specs.OwnOrder.{keeps_order}
use Rattle.schedule_model.specs.Legal.{is_clear, may_come, goes_legally}
use Rattle.journal_records.specs.declared.record.Record.{Record}
use Rattle.journal_records.specs.declared.record.Record.TheVariants as records
use Rattle.journal_records.specs.Bytes.{bytes_of, record_of, entry_told}
use Rattle.journal_records.specs.Laws.{told}
use Rattle.journal_records.specs.Laws as record_laws
use Rattle.journal_records.proofs.ReadBack.{records_are_read_back}
use Rattle.process_journal.specs.Bodies.{event_body, next_text}
use Rattle.process_journal.specs.Journals.{FitsItsBytes}

-- the record of an event
abbrev pub record_for : List Plan → Event → Record
record_for plans (Start i) = records.Start i (next_text plans)
record_for plans (Act e) = records.Act e
record_for plans (End i) = records.End i

pub body_for : (plans : List Plan) (e : Event) → event_body plans e ≡ bytes_of (record_for plans e)
body_for plans (Start i) = refl
body_for plans (Act e) = refl
body_for plans (End i) = refl

fits_so : (plans : List Plan) (e : Event) → FitsItsBytes e → record_laws.FitsItsBytes (record_for plans e)
fits_so plans (Start i) fits = fits
fits_so plans (Act e) fits = fits
fits_so plans (End i) fits = fits

-- the body of an event is read as its record
pub event_back : (plans : List Plan) (e : Event) → FitsItsBytes e → record_of (event_body plans e) ≡ Some (told (record_for plans e))
event_back plans e fits = ap record_of (body_for plans e) ∙ records_are_read_back (record_for plans e) (fits_so plans e fits)

-- an event without the operation and the key of its step
abbrev pub told_event : Event → Event
told_event (Start i) = Start i
told_event (Act e) = Act (entry_told e.process e.step e.undo)
told_event (End i) = End i

-- a step does what its plan says
abbrev pub DoesAsPlanned : List Course → Event → Type 0
DoesAsPlanned courses (Start i) = ⊤
DoesAsPlanned courses (Act e) = access_of e ≡ access_at courses e.process e.step
DoesAsPlanned courses (End i) = ⊤

as_planned : (courses : List Course) (h : List Event) (e : Event) → IsTrue (keeps_order courses h e) → DoesAsPlanned courses e
as_planned courses h (Start i) keeps = tt
as_planned courses h (Act e) keeps =
    same_access-true (access_of e) (access_at courses e.process e.step) (three (is_active h e.process) (same_access (access_of e) (access_at courses e.process e.step)) _ keeps).1
as_planned courses h (End i) keeps = tt

-- so has each in a legal history
pub all_as_planned : (table : ConflictRelation) (courses : List Course) (before h : List Event) → IsTrue (goes_legally table courses before h) → Each (DoesAsPlanned courses) h
all_as_planned table courses before [] legal = tt
all_as_planned table courses before (e ∷ h) legal =
    let parts = and_parts (may_come table courses before e) (goes_legally table courses (before ++ e ∷ []) h) legal in
    (as_planned courses before e (and_parts (keeps_order courses before e) (is_clear table courses before e) parts.0).0, all_as_planned table courses (before ++ e ∷ []) h parts.1)

-- entries of one process and step are the same, where each does what its plan says
same_entry : (courses : List Course) (x y : Entry) → DoesAsPlanned courses (Act x) → DoesAsPlanned courses (Act y) → entry_told x.process x.step x.undo ≡ entry_told y.process y.step y.undo → x ≡ y
same_entry courses x y one two same =
    let process = ap (λ (e : Entry). e.process) same in
    let step = ap (λ (e : Entry). e.step) same in
    let undo = ap (λ (e : Entry). e.undo) same in
    let access : access_of x ≡ access_of y = one ∙ ap (λ i. access_at courses i x.step) process ∙ ap (access_at courses y.process) step ∙ sym two in
    ap (λ i. record { process = i; step = x.step; op = x.op; key = x.key; undo = x.undo }) process
    ∙ ap (λ b. record { process = y.process; step = b; op = x.op; key = x.key; undo = x.undo }) step
    ∙ ap (λ (a : Access). record { process = y.process; step = y.step; op = a.op; key = a.key; undo = x.undo }) access
    ∙ ap (λ u. record { process = y.process; step = y.step; op = y.op; key = y.key; undo = u }) undo

same_event : (courses : List Course) (e f : Event) → DoesAsPlanned courses e → DoesAsPlanned courses f → told_event e ≡ told_event f → e ≡ f
same_event courses (Start i) (Start j) one two same = same
same_event courses (Start i) (Act y) one two same = absurd cc
same_event courses (Start i) (End j) one two same = absurd cc
same_event courses (Act x) (Start j) one two same = absurd cc
same_event courses (Act x) (Act y) one two same =
    let told_same : entry_told x.process x.step x.undo ≡ entry_told y.process y.step y.undo = cc in
    ap (λ e. Act e) (same_entry courses x y one two told_same)
same_event courses (Act x) (End j) one two same = absurd cc
same_event courses (End i) (Start j) one two same = absurd cc
same_event courses (End i) (Act y) one two same = absurd cc
same_event courses (End i) (End j) one two same = same

-- events that tell the same are the same, where each step does what its plan says
pub same_events : (courses : List Course) (g h : List Event) → Each (DoesAsPlanned courses) g → Each (DoesAsPlanned courses) h → map told_event g ≡ map told_event h → g ≡ h
same_events courses [] [] one two same = refl
same_events courses [] (f ∷ h) one two same = absurd cc
same_events courses (e ∷ g) [] one two same = absurd cc
same_events courses (e ∷ g) (f ∷ h) one two same =
    let head : told_event e ≡ told_event f = cc in
    let rest : map told_event g ≡ map told_event h = cc in
    ap (λ x. x ∷ g) (same_event courses e f one.0 two.0 head) ∙ ap (λ xs. f ∷ xs) (same_events courses g h one.1 two.1 rest)
