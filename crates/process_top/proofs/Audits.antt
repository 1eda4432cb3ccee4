-- A log that is within the limits and in own order is audited, and so is the history of a journal, or memory was wanting.
use Rattle.std.proofs.Common.{◌≡◌, ◌∙◌, ◌⊎◌, ◌≤◌, ◌<◌, ℕ, List, [], ◌∷◌, length, take, drop, Option, Some, None, IfSome, Result, Ok, Err, refl, sym, ap, subst, inl, inr, arith, take-append-drop}
use Rattle.std.specs.declared.alloc.Global.{Global}
use Rattle.process_flow.specs.Causes.{Rose}
use Rattle.process_disk.specs.Disk.{Told, file_of}
use Rattle.process_tree.specs.Conflicts.{do_conflict}
use Rattle.process_tree.specs.declared.plan.Plan.{Plan}
use Rattle.commute_table.specs.declared.catalog.Catalog.{Catalog}
use Rattle.schedule_model.specs.declared.history.History.{History}
use Rattle.schedule_model.specs.Course.{courses_of}
use Rattle.process_journal.specs.Journals.{IsHistoryUnder}
use Rattle.process_journal.specs.Opened.{IsJournalOf}
use Rattle.process_journal.specs.declared.errors.JournalError.{JournalError}
use Rattle.process_journal.specs.declared.errors.JournalError.TheVariants as journal
use Rattle.process_journal.proofs.NeverRefused.{journals_are_opened}
use Rattle.journal_input.specs.Opening.{journal_refusal, journal_test}
use Rattle.session_text.specs.Sessions.{scenario_of}
use Rattle.dependence_model.specs.Audited.{IsFirstFailing}
use Rattle.audit_core.specs.Audits.{IsAudit}
use Rattle.audit_core.specs.declared.judging.Audited.{Audited}
use Rattle.audit_core.specs.declared.judging.Audited.TheVariants.{Reducible, Barred, Cycle}
use Rattle.audit_text.specs.Logs.{Log, log_of}
use Rattle.audit_run.specs.Audit.{log_test, written_tests, IsAudited, IsAuditDue as IsAuditFound}
use Rattle.audit_run.specs.History.{verdict_status, IsHistorySaid, IsHistoryAuditDue as IsHistoryAuditFound}
use Rattle.audit_run.specs.Outcomes.{audited_status, outcome_status, IsOutcome, IsSaidOf}
use Rattle.audit_run.specs.declared.judging.Outcome.{Outcome}
use Rattle.audit_run.specs.declared.judging.Outcome.TheVariants.{Events, Steps, OutOfOrder, Found}
use Rattle.command_refusals.specs.declared.refusal.Refusal.{Refusal}
use Rattle.command_refusals.specs.declared.refusal.Refusal.TheVariants as refusals
use Rattle.command_refusals.specs.Order.{Tests, followed_by, last_test, AllHold, IsFirstRefusal}
use Rattle.command_refusals.specs.Refusals.{refusal_status}
use Rattle.command_refusals.specs.Statuses.{IsOneOf}
use Rattle.command_refusals.specs.declared.status.Status.{Status}
use Rattle.command_refusals.specs.declared.status.Status.TheVariants.{Done, BadInput, Limit, NotReduced, NoMemory}
use Rattle.command_refusals.proofs.Orders.{in_parts}
use Rattle.command_input.specs.declared.said.Said.{Said}
use Rattle.command_input.specs.declared.scenario.NoPlans.{NoPlans}
use Rattle.command_input.specs.declared.scenario.NoPlans.TheVariants.{Refused, IllFormed}
use Rattle.command_input.specs.FilesLeft.{Files}
use Rattle.command_input.specs.Inputs.{Input, most_input, HasNoText, IsWholeText}
use Rattle.command_input.specs.Scenarios.{refusing, scenario_tests, IsBound}
use Rattle.command_input.proofs.ScenarioParts.{held_bound}
use Rattle.scenario_run.specs.Completeness.{NothingFailed}
use Rattle.scenario_run.proofs.NothingWrong.{catalog_of, ill_formed, unbound}
use Rattle.replay_run.specs.Replay.{found_status}
use Rattle.process_top.specs.Audit.{HasLog, IsAuditable, IsAuditComplete, IsHistoryAuditComplete, IsReducible}

-- A source that has a text within the limit, and of which no call failed, gives that text.
module _ (before after : Input) (quiet : ¬ Rose before.faults after.faults) (bytes : List ℕ) (told : before.left ≡ Some bytes) (few : length bytes ≤ most_input) where
  whole_is : (text : List ℕ) → IsWholeText before after text → text ≡ bytes
  whole_is text whole = subst (λ o. IfSome o (λ given. text ≡ given)) told whole.2

  no_lack : (r : Refusal) → HasNoText r before after → r ≡ refusals.NoMemory
  no_lack r (inl long) = absurd (let more = subst (λ o. IfSome o (λ text. most_input < length text)) told long.1 in let within = few in omega arith)
  no_lack r (inr (inl fault)) = absurd (quiet fault.1)
  no_lack r (inr (inr memory)) = memory

-- A log behind a scenario
module _ (alloc : Global) (bytes : List ℕ) (c : Catalog) (plans : List Plan) (Holds : Log → Type 0) (bound : IsBound (scenario_of bytes) c plans)
    (log : (ps : List Plan) → IsBound (scenario_of bytes) c ps → (l : Log) × (log_of ps bytes ≡ Ok l) × IsAuditable l × Holds l) where
  own : (d : Catalog) (ps : List Plan) → IsBound (scenario_of bytes) d ps → (d ≡ c) × ((l : Log) × (log_of ps bytes ≡ Ok l) × IsAuditable l × Holds l)
  own d ps is =
      let same : d ≡ c = catalog_of alloc (scenario_of bytes) c plans bound d ps is in
      (same, log ps (subst (λ e. IsBound (scenario_of bytes) e ps) same is))

  -- why a text is refused, by its parts
  abbrev IsRefusedIn : NoPlans → Type 0
  IsRefusedIn none = IsFirstRefusal (scenario_tests (scenario_of bytes)) none
      ⊎ ((v : Catalog × List Plan) × AllHold (scenario_tests (scenario_of bytes)) v × (refusing (log_test v.1 bytes)).refuses none)

  -- isn't refused,
  refused : (r : Refusal) → IsFirstRefusal (written_tests bytes) (Refused r) → r ≡ refusals.NoMemory
  refused r why = by_part (in_parts (scenario_tests (scenario_of bytes)) (λ b. last_test (refusing (log_test b.1 bytes))) (Refused r) why)
    where
      by_part : IsRefusedIn (Refused r) → r ≡ refusals.NoMemory
      by_part (inl none) = unbound alloc (scenario_of bytes) c plans bound r none
      by_part (inr (v, holds, inl memory)) = memory
      by_part (inr (v, holds, inr (n, is, bad))) =
          let mine = (own v.0 v.1 (held_bound (scenario_of bytes) v holds)).1 in
          let no : Ok mine.0 ≡ Err n = sym mine.1 ∙ bad in absurd cc

  no_line : (line : _) → IsFirstRefusal (written_tests bytes) (IllFormed line) → ⊥
  no_line line why = by_part (in_parts (scenario_tests (scenario_of bytes)) (λ b. last_test (refusing (log_test b.1 bytes))) (IllFormed line) why)
    where
      by_part : IsRefusedIn (IllFormed line) → ⊥
      by_part (inl none) = ill_formed alloc (scenario_of bytes) c plans bound line none
      by_part (inr (v, holds, none)) = none

  -- but audited
  found_of : (l : Log) → IsAuditable l → (o : Outcome) → IsOutcome c l o → (found : Audited) × (outcome_status o ≡ audited_status found) × IsAudit (do_conflict c.conflicts) (courses_of l.started) l.events found
  found_of l may (Events n) is = absurd (let few = may.within.events in let many = is.1 in let same = is.0 in omega arith)
  found_of l may (Steps n) is = absurd (let few = may.within.steps in let many = is.2 in let same = is.1 in omega arith)
  found_of l may (OutOfOrder n) is = absurd (let none = may.in_order in let some = is.1 in cc)
  found_of l may (Found found) is = (found, refl, is.2)

  ended : (s : Status) (o : Outcome) (found : Audited) → s ≡ outcome_status o → outcome_status o ≡ audited_status found → s ≡ audited_status found
  ended s o found is same = is ∙ same

  judged : (s : Said) → IsAudited bytes s
      → (l : Log) × Holds l × ((found : Audited) × (s.status ≡ audited_status found) × IsAudit (do_conflict c.conflicts) (courses_of l.started) l.events found)
  judged s audited =
      let has = own audited.catalog audited.plans audited.written.bound in
      let l = has.1.0 in
      let both : Ok audited.log ≡ Ok l = sym audited.written.told ∙ has.1.1 in
      let is : audited.log ≡ l = cc in
      let said : IsSaidOf c l s.text.items s.status =
      subst (λ m. IsSaidOf c m s.text.items s.status) is (subst (λ d. IsSaidOf d audited.log s.text.items s.status) has.0 audited.said) in
      let found = found_of l has.1.2 said.outcome said.found in
      (l, has.1.3, (found.0, ended s.status said.outcome found.0 said.ended found.1, found.2))

module _ (alloc : Global) (before after : Input) (quiet : ¬ Rose before.faults after.faults) where
  -- so the status is that of what an audit answers, or of want of memory
  abbrev HasStatus : Result Said Refusal → Catalog → (Log → Type 0) → Type 0
  HasStatus found c Holds =
      ((l : Log) × Holds l × ((answer : Audited) × (found_status found ≡ audited_status answer) × IsAudit (do_conflict c.conflicts) (courses_of l.started) l.events answer))
      ⊎ (found_status found ≡ NoMemory)

  status_of : (found : Result Said Refusal) → IsAuditFound before after found → (bytes : List ℕ) (c : Catalog) (plans : List Plan) (Holds : Log → Type 0) → HasLog before bytes c plans Holds
      → HasStatus found c Holds
  status_of (Ok s) (text, whole, inl audited) bytes c plans Holds has =
      inl (judged alloc bytes c plans Holds has.bound has.log s (subst (λ b. IsAudited b s) (whole_is before after quiet bytes has.told has.few text whole) audited))
  status_of (Ok s) (text, whole, inr ill) bytes c plans Holds has =
      absurd (no_line alloc bytes c plans Holds has.bound has.log ill.line
      (subst (λ b. IsFirstRefusal (written_tests b) (IllFormed ill.line)) (whole_is before after quiet bytes has.told has.few text whole) ill.first))
  status_of (Err r) (inl lack) bytes c plans Holds has = inr (ap refusal_status (no_lack before after quiet bytes has.told has.few r lack))
  status_of (Err r) (inr (text, whole, why)) bytes c plans Holds has =
      inr (ap refusal_status (refused alloc bytes c plans Holds has.bound has.log r
      (subst (λ b. IsFirstRefusal (written_tests b) (Refused r)) (whole_is before after quiet bytes has.told has.few text whole) why)))

  -- of a log that can be reduced wherever it is cut off no beginning fails
  never_fails : (c : Catalog) (l : Log) (n : ℕ) → IsReducible c l → IsFirstFailing (do_conflict c.conflicts) (courses_of l.started) l.events n → ⊥
  never_fails c l n reducible failing = failing.fails (reducible (take n l.events) (drop n l.events) (sym (take-append-drop n l.events)))

  reduced : (c : Catalog) (l : Log) (answer : Audited) (status : Status) → IsReducible c l → status ≡ audited_status answer → IsAudit (do_conflict c.conflicts) (courses_of l.started) l.events answer → status ≡ Done
  reduced c l (Reducible serial) status holds is audit = is
  reduced c l (Barred prefix left) status holds is audit = absurd (never_fails c l prefix holds audit.0)
  reduced c l (Cycle prefix left processes) status holds is audit = absurd (never_fails c l prefix holds audit.0)

  unreduced : (c : Catalog) (l : Log) (answer : Audited) (status : Status) → ¬ IsReducible c l → status ≡ audited_status answer → IsAudit (do_conflict c.conflicts) (courses_of l.started) l.events answer → status ≡ NotReduced
  unreduced c l (Reducible serial) status holds is audit = absurd (holds audit.0)
  unreduced c l (Barred prefix left) status holds is audit = is
  unreduced c l (Cycle prefix left processes) status holds is audit = is

  -- A log is audited, where nothing failed.
  pub log_is_audited : (found : Result Said Refusal) → IsAuditFound before after found → IsAuditComplete before (found_status found)
  log_is_audited found due = record {
    reducible = λ bytes c plans has. by_reducible c (status_of found due bytes c plans (IsReducible c) has);
    irreducible = λ bytes c plans has. by_irreducible c (status_of found due bytes c plans (λ l. ¬ IsReducible c l) has);
  }
    where
      by_reducible : (c : Catalog) → HasStatus found c (IsReducible c) → IsOneOf (found_status found) (Done ∷ NoMemory ∷ [])
      by_reducible c (inl (l, holds, (answer, is, audit))) = inl (reduced c l answer (found_status found) holds is audit)
      by_reducible c (inr memory) = inr (inl memory)

      by_irreducible : (c : Catalog) → HasStatus found c (λ l. ¬ IsReducible c l) → IsOneOf (found_status found) (NotReduced ∷ NoMemory ∷ [])
      by_irreducible c (inl (l, holds, (answer, is, audit))) = inl (unreduced c l answer (found_status found) holds is audit)
      by_irreducible c (inr memory) = inr (inl memory)

-- the statuses of an audited history
outcome_is : (o : Outcome) (s : Status) → s ≡ outcome_status o → IsOneOf s (Done ∷ BadInput ∷ Limit ∷ NotReduced ∷ NoMemory ∷ [])
outcome_is (Events n) s is = inr (inr (inl is))
outcome_is (Steps n) s is = inr (inr (inl is))
outcome_is (OutOfOrder n) s is = inr (inl is)
outcome_is (Found (Reducible serial)) s is = inl is
outcome_is (Found (Barred prefix left)) s is = inr (inr (inr (inl is)))
outcome_is (Found (Cycle prefix left processes)) s is = inr (inr (inr (inl is)))

verdict_is : (first : Option ℕ) (o : Outcome) (s : Status) → s ≡ verdict_status first o → IsOneOf s (Done ∷ BadInput ∷ Limit ∷ NotReduced ∷ NoMemory ∷ [])
verdict_is (Some n) o s is = outcome_is o s is
verdict_is None (Events n) s is = inl is
verdict_is None (Steps n) s is = inl is
verdict_is None (OutOfOrder n) s is = outcome_is (OutOfOrder n) s is
verdict_is None (Found found) s is = outcome_is (Found found) s is

pub history_is : (c own : Catalog) (h : History) (text : List ℕ) (s : Status) → IsHistorySaid c own h text s → IsOneOf s (Done ∷ BadInput ∷ Limit ∷ NotReduced ∷ NoMemory ∷ [])
history_is c own h text s (inl unknown) = inr (inl unknown.ended)
history_is c own h text s (inr judged) = verdict_is _ judged.judged.outcome s judged.judged.ended

opened_or_memory : (e : JournalError) (r : Refusal) (before after : ℕ) → r ≡ journal_refusal e → (e ≡ journal.DiskFault) ⊎ (e ≡ journal.NoMemory) → (e ≡ journal.DiskFault → Rose before after) → ¬ Rose before after → r ≡ refusals.NoMemory
opened_or_memory e r before after is (inl fault) rose quiet = absurd (quiet (rose fault))
opened_or_memory e r before after is (inr memory) rose quiet = is ∙ ap journal_refusal memory

-- the tests behind the text, of the scenario and of file 0
abbrev history_behind : Files → Files → List ℕ → Tests NoPlans (Catalog × History)
history_behind files files_after bytes = followed_by (scenario_tests bytes) (λ bound. last_test (refusing (journal_test files files_after)))

-- The history of a journal is audited, where nothing failed.
module _ (alloc : Global) (before after : Input) (files files_after : Files) (quiet : NothingFailed before after files files_after) where
  abbrev IsRefusedBehind : List ℕ → NoPlans → Type 0
  IsRefusedBehind bytes none = IsFirstRefusal (scenario_tests bytes) none
      ⊎ ((v : Catalog × List Plan) × AllHold (scenario_tests bytes) v × (refusing (journal_test files files_after)).refuses none)

  not_refused : (bytes : List ℕ) (c : Catalog) (plans : List Plan) (mine : Catalog) (h : History) (r : Refusal) → IsBound bytes c plans → IsHistoryUnder mine h → Told files.disk → IsJournalOf mine h files.disk.files
      → IsFirstRefusal (history_behind files files_after bytes) (Refused r) → r ≡ refusals.NoMemory
  not_refused bytes c plans mine h r bound good known kept why = by_part (in_parts (scenario_tests bytes) (λ b. last_test (refusing (journal_test files files_after))) (Refused r) why)
    where
      by_part : IsRefusedBehind bytes (Refused r) → r ≡ refusals.NoMemory
      by_part (inl none) = unbound alloc bytes c plans bound r none
      by_part (inr (v, holds, (e, is, due, rose))) =
          opened_or_memory e r files.faults files_after.faults is (journals_are_opened mine h (file_of files.disk.files 0) e good kept (due known)) rose quiet.rack

  pub history_is_audited : (found : Result Said Refusal) → IsHistoryAuditFound before after files files_after found → IsHistoryAuditComplete before files (found_status found)
  history_is_audited (Ok s) (text, whole, inl audited) = λ bytes c plans mine h told few bound good known kept. history_is audited.catalog audited.own audited.history s.text.items s.status audited.said
  history_is_audited (Ok s) (text, whole, inr ill) = λ bytes c plans mine h told few bound good known kept.
      absurd (ill_formed alloc bytes c plans bound ill.line (subst (λ b. IsFirstRefusal (scenario_tests b) (IllFormed ill.line)) (whole_is before after quiet.source bytes told few text whole) ill.first))
  history_is_audited (Err r) (inl lack) = λ bytes c plans mine h told few bound good known kept. inr (inr (inr (inr (inl (ap refusal_status (no_lack before after quiet.source bytes told few r lack))))))
  history_is_audited (Err r) (inr (text, whole, why)) = λ bytes c plans mine h told few bound good known kept.
      inr (inr (inr (inr (inl (ap refusal_status (not_refused bytes c plans mine h r bound good known kept
      (subst (λ b. IsFirstRefusal (history_behind files files_after b) (Refused r)) (whole_is before after quiet.source bytes told few text whole) why)))))))
