-- The command `audit --history`: would the history of file 0 still be allowed under the conflicts of another scenario?
use Rattle.std.specs.Prelude.{◌≡◌, ◌⊎◌, ℕ, ◌-◌, Bool, true, false, List, [], ◌++◌, length, map, codes, decimal, Vec}
use Rattle.std.specs.Prelude.{if◌then◌else◌, Option, Some, None, Result, Ok, Err}
use Rattle.std.specs.declared.alloc.Global.{Global}
use Rattle.std.specs.List.{slice_get}
use Rattle.std.specs.Option.{option_to_list}
use Rattle.process_tree.specs.Conflicts.{do_conflict}
use Rattle.process_tree.specs.declared.plan.Plan.{Plan}
use Rattle.commute_table.specs.declared.catalog.Catalog.{Catalog}
use Rattle.schedule_model.specs.Course.{courses_of}
use Rattle.schedule_model.specs.Legal.{first_illegal}
use Rattle.schedule_model.specs.declared.history.History.{History}
use Rattle.machine_model.specs.declared.blocked.Rule.{Rule}
use Rattle.event_rules.specs.Refusing.{refusing_rule}
use Rattle.process_report.specs.Blocks.{rule_word}
use Rattle.process_report.specs.Lines.{event_line, text_of}
use Rattle.process_report.specs.Names.{op_name}
use Rattle.process_report.specs.Report.{form_of}
use Rattle.journal_input.specs.Opening.{journal_test, IsOpened}
use Rattle.command_refusals.specs.declared.refusal.Refusal.{Refusal}
use Rattle.command_refusals.specs.declared.status.Status.{Status}
use Rattle.command_refusals.specs.declared.status.Status.TheVariants.{Done, BadInput}
use Rattle.command_refusals.specs.declared.status.Status.TheVariants as statuses
use Rattle.command_refusals.specs.Order.{Tests, last_test, test_then, IsFirstRefusal, followed_by}
use Rattle.command_input.specs.declared.said.Said.{Said}
use Rattle.command_input.specs.declared.scenario.NoPlans.{NoPlans}
use Rattle.command_input.specs.declared.scenario.NoPlans.TheVariants.{Refused, IllFormed}
use Rattle.command_input.specs.FilesLeft.{Files}
use Rattle.command_input.specs.Inputs.{Input, text_test, IsWholeText}
use Rattle.command_input.specs.Scenarios.{refusing, scenario_tests, IsBound}
use Rattle.audit_text.specs.Logs.{Log}
use Rattle.audit_run.specs.declared.judging.Outcome.{Outcome}
use Rattle.audit_run.specs.declared.judging.Outcome.TheVariants.{Events, Steps, OutOfOrder, Found}
use Rattle.audit_run.specs.Outcomes.{outcome_status, outcome_text, IsOutcome}
use Rattle.named_conflicts.specs.Under.{first_unknown, IsUnder}

-- a history as a log that tells it
abbrev pub log_in : History → Log
log_in h = record { started = h.plans; events = h.events }

-- the first event that may not come, by the conflicts of a catalog
abbrev pub first_refused : Catalog → History → Option ℕ
first_refused c h = first_illegal (do_conflict c.conflicts) (courses_of h.plans) h.events

-- the rule by which the event at a place is refused
abbrev pub rule_at : Catalog → History → ℕ → Option Rule
rule_at c h n = refusing_rule (do_conflict c.conflicts) (courses_of h.plans) h.events n

-- this is the rule of the first event that may not come, if there is one
abbrev pub IsRuleOf : Catalog → History → Option ℕ → Option Rule → Type 0
IsRuleOf c h None rule = rule ≡ None
IsRuleOf c h (Some n) rule = (r : Rule) × (rule ≡ Some r) × (rule_at c h n ≡ Some r)

-- the first event that may not come is refused by a rule
abbrev pub AreRuled : Catalog → History → Type 0
AreRuled c h = (n : ℕ) → first_refused c h ≡ Some n → (rule : Rule) × (rule_at c h n ≡ Some rule)

-- ` rule R`
abbrev pub rule_part : Option Rule → List ℕ
rule_part None = []
rule_part (Some rule) = codes " rule " ++ rule_word rule

-- `legal`, or `not legal at N rule R` and the line of that event
abbrev pub legality_text : Catalog → History → Option ℕ → List ℕ
legality_text c h None = codes "legal\n"
legality_text c h (Some n) =
    (codes "not legal at " ++ decimal n ++ rule_part (rule_at c h n) ++ codes "\n")
    ++ text_of (map (event_line (form_of c) h.plans c.ops) (option_to_list (slice_get h.events (n - 1))))

-- it has more events, or its processes more steps, than an audit takes
abbrev pub is_beyond : Outcome → Bool
is_beyond (Events n) = true
is_beyond (Steps n) = true
is_beyond (OutOfOrder n) = false
is_beyond (Found found) = false

-- what is printed of an outcome
abbrev pub found_text : Catalog → History → Outcome → List ℕ
found_text c h outcome = outcome_text (form_of c) h.plans c.ops (length h.events) outcome

-- What is printed behind that: what an audit finds. Of a legal history that is beyond its limits it is nothing, since a legal
-- history can be reduced wherever it is cut off.
abbrev pub verdict_text : Catalog → History → Option ℕ → Outcome → List ℕ
verdict_text c h None outcome = if is_beyond outcome then [] else found_text c h outcome
verdict_text c h (Some n) outcome = found_text c h outcome

-- and its status
abbrev pub verdict_status : Option ℕ → Outcome → Status
verdict_status None outcome = if is_beyond outcome then Done else outcome_status outcome
verdict_status (Some n) outcome = outcome_status outcome

-- What is said of a history under a catalog of its operations: whether it is legal, and what an audit finds.
pub record IsJudgedBy (c : Catalog) (h : History) (text : List ℕ) (status : Status) : Type 0 where
  pub ruled : AreRuled c h
  pub outcome : Outcome
  pub found : IsOutcome c (log_in h) outcome
  pub printed : text ≡ legality_text c h (first_refused c h) ++ verdict_text c h (first_refused c h) outcome
  pub ended : status ≡ verdict_status (first_refused c h) outcome

-- An operation of its processes isn't one of the scenario: the first is named.
pub record HasUnknown (c own : Catalog) (h : History) (text : List ℕ) (status : Status) : Type 0 where
  pub number : ℕ
  pub unknown : first_unknown c.ops own.ops h.plans ≡ Some number
  pub printed : text ≡ codes "unknown operation " ++ op_name own.ops number ++ codes "\n"
  pub ended : status ≡ BadInput

-- Each is one, and the history is judged by the conflicts that the scenario names of them.
pub record IsJudgedUnder (c own : Catalog) (h : History) (text : List ℕ) (status : Status) : Type 0 where
  pub known : first_unknown c.ops own.ops h.plans ≡ None
  pub under : Catalog
  pub named : IsUnder c own under
  pub judged : IsJudgedBy under h text status

-- what is said of a history under a scenario of this catalog, if it was kept under that one
abbrev pub IsHistorySaid : Catalog → Catalog → History → List ℕ → Status → Type 0
IsHistorySaid c own h text status = HasUnknown c own h text status ⊎ IsJudgedUnder c own h text status

-- The tests of an input and of file 0, in their order: the text, its scenario, and then the journal.
abbrev pub history_tests : Input → Input → Files → Files → Tests NoPlans (Catalog × History)
history_tests before after files files_after =
    test_then (refusing (text_test before after)) (λ bytes.
    followed_by (scenario_tests bytes) (λ bound. last_test (refusing (journal_test files files_after))))

-- What is said of a text and of file 0: what there is to say of the history of the one under the scenario of the other.
pub record IsHistoryAudited (bytes : List ℕ) (files files_after : Files) (s : Said) : Type 0 where
  pub catalog : Catalog
  pub plans : List Plan
  pub own : Catalog
  pub history : History
  pub bound : IsBound bytes catalog plans
  pub opened : IsOpened own history files files_after
  pub said : IsHistorySaid catalog own history s.text.items s.status

-- The verdict line of the first process of the scenario that isn't well-formed is said; no file was looked at.
pub record IsScenarioIllFormed (bytes : List ℕ) (s : Said) : Type 0 where
  pub line : Vec ℕ Global
  pub first : IsFirstRefusal (scenario_tests bytes) (IllFormed line)
  pub printed : s.text.items ≡ line.items
  pub ended : s.status ≡ statuses.IllFormed

-- what is told where a scenario gives no plans: the verdict line, or the refusal
abbrev pub IsToldOf : NoPlans → Result Said Refusal → Type 0
IsToldOf none (Ok s) =
    (line : Vec ℕ Global) × (none ≡ IllFormed line) × (s.text.items ≡ line.items) × (s.status ≡ statuses.IllFormed)
IsToldOf none (Err r) = none ≡ Refused r

-- What there is to say of an input and of the files: what is found of the history of file 0, or the verdict line; or else what the
-- first of the tests refuses.
abbrev pub IsHistoryAuditDue : Input → Input → Files → Files → Result Said Refusal → Type 0
IsHistoryAuditDue before after files files_after (Ok s) =
    (bytes : List ℕ) × IsWholeText before after bytes
    × (IsHistoryAudited bytes files files_after s ⊎ IsScenarioIllFormed bytes s)
IsHistoryAuditDue before after files files_after (Err r) =
    IsFirstRefusal (history_tests before after files files_after) (Refused r)
