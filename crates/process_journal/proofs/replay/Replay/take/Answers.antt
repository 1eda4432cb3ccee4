use Rattle.std.specs.Prelude.{IfOk, IfErr}
use Rattle.std.proofs.Common.{◌≡◌, ◌⊎◌, false, Some, IfSome, refl, sym, ap, ◌∙◌, subst}
use Rattle.process_tree.specs.declared.entry.Entry.{Entry}
use Rattle.process_tree.specs.declared.plan.Plan.{Plan}
use Rattle.schedule_model.specs.declared.event.Event.TheVariants as events
use Rattle.journal_records.specs.declared.record.Record.TheVariants.{Start, Act, End}
use Rattle.journal_records.specs.Bytes.{bytes_of}
use Rattle.process_journal.specs.declared.errors.JournalError.TheVariants.{BadRecord, BadHistory, NoMemory}
use Rattle.process_journal.specs.Plans.{IsPlanOfText}
use Rattle.process_journal.specs.Bodies.{with_event, with_start}
use Rattle.process_journal.specs.Journals.{is_allowed}
use Rattle.process_journal.proofs.Taking.{body_taken, event_refused, start_refused}
use Rattle.process_journal.proofs.replay.Replay.take.Goals as goal

pub returns-in-Some-Start-clause-bodies : goal.returns-in-Some-Start-clause-bodies
returns-in-Some-Start-clause-bodies c =
    let catalog = c.args.catalog.now in
    let h = c.args.self.history in
    let i = c.in-Some-Start.process in
    let is = c.in-Some-Start.is ∙ ap Some c.in-Some-Start.field-0-is in
    let bytes = subst (λ o. IfSome o (λ r. bytes_of r ≡ c.args.body.now)) is c.in_ok-process.ensures.bytes in
    body_taken catalog h (Start i c.in-Some-Start.text) c.args.body.now c.start.result c.requires.read.history bytes
    (subst (λ t. IfOk c.start.result (λ after. (p : Plan) × IsPlanOfText catalog t p × (after.history ≡ with_start h i p))) c.bytes.ensures c.start.ensures.history)

pub returns-in-Some-Start-clause-refused : goal.returns-in-Some-Start-clause-refused
returns-in-Some-Start-clause-refused c =
    let catalog = c.args.catalog.now in
    let h = c.args.self.history in
    let n = c.args.number in
    let i = c.in-Some-Start.process in
    let is = sym c.in_ok-process.ensures.found ∙ c.in-Some-Start.is ∙ ap Some c.in-Some-Start.field-0-is in
    start_refused catalog h n c.args.body.now i c.in-Some-Start.text c.start.result is
    (subst (λ t. IfErr c.start.result (λ why. (why ≡ NoMemory) ⊎ ((why ≡ BadRecord n) × ((p : Plan) → ¬ IsPlanOfText catalog t p))
    ⊎ ((why ≡ BadHistory n) × ((p : Plan) × IsPlanOfText catalog t p × (is_allowed catalog (with_start h i p) ≡ false))))) c.bytes.ensures c.start.ensures.refused)

pub returns-in-Some-Act-clause-bodies : goal.returns-in-Some-Act-clause-bodies
returns-in-Some-Act-clause-bodies c =
    let h = c.args.self.history in
    let e = c.in-Some-Act.entry in
    let is = c.in-Some-Act.is ∙ ap Some c.in-Some-Act.field-0-is in
    let bytes = subst (λ o. IfSome o (λ r. bytes_of r ≡ c.args.body.now)) is c.in_ok-process.ensures.bytes in
    body_taken c.args.catalog.now h (Act e) c.args.body.now c.go_on.result c.requires.read.history bytes
    (subst (λ (x : Entry). IfOk c.go_on.result (λ after. after.history ≡ with_event h (events.Act x))) c.planned-act.ensures c.go_on.ensures.history)

pub returns-in-Some-Act-clause-refused : goal.returns-in-Some-Act-clause-refused
returns-in-Some-Act-clause-refused c =
    let h = c.args.self.history in
    let e = c.in-Some-Act.entry in
    let is = sym c.in_ok-process.ensures.found ∙ c.in-Some-Act.is ∙ ap Some c.in-Some-Act.field-0-is in
    event_refused c.args.catalog.now h c.args.number c.args.body.now (Act e) (events.Act c.planned-act.result) c.go_on.result is
    (ap (λ (x : Entry). with_event h (events.Act x)) c.planned-act.ensures) c.go_on.ensures.refused

pub returns-in-Some-End-clause-bodies : goal.returns-in-Some-End-clause-bodies
returns-in-Some-End-clause-bodies c =
    let is = c.in-Some-End.is ∙ ap Some c.in-Some-End.field-0-is in
    let bytes = subst (λ o. IfSome o (λ r. bytes_of r ≡ c.args.body.now)) is c.in_ok-process.ensures.bytes in
    body_taken c.args.catalog.now c.args.self.history (End c.in-Some-End.process) c.args.body.now c.go_on-in-Some-End.result c.requires.read.history bytes c.go_on-in-Some-End.ensures.history

pub returns-in-Some-End-clause-refused : goal.returns-in-Some-End-clause-refused
returns-in-Some-End-clause-refused c =
    let is = sym c.in_ok-process.ensures.found ∙ c.in-Some-End.is ∙ ap Some c.in-Some-End.field-0-is in
    event_refused c.args.catalog.now c.args.self.history c.args.number c.args.body.now (End c.in-Some-End.process) (events.End c.in-Some-End.process) c.go_on-in-Some-End.result is refl c.go_on-in-Some-End.ensures.refused
