-- The command `audit`: a scenario, and behind its mark the log of what another scheduler did with its processes.
use Rattle.std.specs.Prelude.{◌≡◌, ◌⊎◌, ℕ, List, Result, Ok, Err, Vec}
use Rattle.std.specs.declared.alloc.Global.{Global}
use Rattle.process_tree.specs.declared.plan.Plan.{Plan}
use Rattle.commute_table.specs.declared.catalog.Catalog.{Catalog}
use Rattle.command_refusals.specs.declared.refusal.Refusal.{Refusal}
use Rattle.command_refusals.specs.declared.refusal.Refusal.TheVariants.{BadLine, NoMemory}
use Rattle.command_refusals.specs.Order.{Test, Tests, last_test, test_then, IsFirstRefusal, followed_by}
use Rattle.command_refusals.specs.declared.status.Status.TheVariants as statuses
use Rattle.command_input.specs.declared.said.Said.{Said}
use Rattle.command_input.specs.declared.scenario.NoPlans.{NoPlans}
use Rattle.command_input.specs.declared.scenario.NoPlans.TheVariants.{Refused, IllFormed}
use Rattle.command_input.specs.Inputs.{Input, text_test, IsWholeText}
use Rattle.command_input.specs.Scenarios.{refusing, scenario_tests, IsBound}
use Rattle.session_text.specs.declared.line.LinesError.{LinesError}
use Rattle.session_text.specs.declared.line.LinesError.TheVariants as errors
use Rattle.session_text.specs.Sessions.{scenario_of}
use Rattle.audit_text.specs.Logs.{Log, log_of}
use Rattle.audit_run.specs.Outcomes.{IsSaidOf}

-- what is told of a log that was not read
abbrev pub lines_refusal : LinesError → Refusal
lines_refusal (errors.BadLine n) = BadLine n
lines_refusal errors.NoMemory = NoMemory

-- a line of the log is bad, the first; or memory was wanting
abbrev pub HasBadLine : List Plan → List ℕ → Refusal → Type 0
HasBadLine plans bytes r = (r ≡ NoMemory) ⊎ ((n : ℕ) × (r ≡ BadLine n) × (log_of plans bytes ≡ Err n))

-- the test of the log behind a scenario with these plans: no line is bad, and what it says is handed on
abbrev pub log_test : List Plan → List ℕ → Test Refusal Log
log_test plans bytes = record { hands_on = λ l. log_of plans bytes ≡ Ok l; refuses = HasBadLine plans bytes }

-- the tests of a text, in their order: those of its scenario, and then that of its log
abbrev pub written_tests : List ℕ → Tests NoPlans Log
written_tests bytes =
    followed_by (scenario_tests (scenario_of bytes)) (λ bound. last_test (refusing (log_test bound.1 bytes)))

-- and those of an input: its text comes first
abbrev pub audit_tests : Input → Input → Tests NoPlans Log
audit_tests before after = test_then (refusing (text_test before after)) written_tests

-- The text has a scenario with this catalog and these plans, and this log behind it.
pub record IsWritten (bytes : List ℕ) (c : Catalog) (plans : List Plan) (l : Log) : Type 0 where
  pub bound : IsBound (scenario_of bytes) c plans
  pub told : log_of plans bytes ≡ Ok l

-- What is said of a text: what is found of its log.
pub record IsAudited (bytes : List ℕ) (s : Said) : Type 0 where
  pub catalog : Catalog
  pub plans : List Plan
  pub log : Log
  pub written : IsWritten bytes catalog plans log
  pub said : IsSaidOf catalog log s.text.items s.status

-- The verdict line of the first process of its scenario that isn't well-formed is said.
pub record IsIllFormed (bytes : List ℕ) (s : Said) : Type 0 where
  pub line : Vec ℕ Global
  pub first : IsFirstRefusal (written_tests bytes) (IllFormed line)
  pub printed : s.text.items ≡ line.items
  pub ended : s.status ≡ statuses.IllFormed

-- what a text comes to
abbrev pub IsTextAudited : List ℕ → Result Said NoPlans → Type 0
IsTextAudited bytes (Ok s) = IsAudited bytes s
IsTextAudited bytes (Err none) = IsFirstRefusal (written_tests bytes) none

-- What there is to say of an input: what is found of its log, or the verdict line; or else what the first of its tests refuses.
abbrev pub IsAuditDue : Input → Input → Result Said Refusal → Type 0
IsAuditDue before after (Ok s) =
    (bytes : List ℕ) × IsWholeText before after bytes × (IsAudited bytes s ⊎ IsIllFormed bytes s)
IsAuditDue before after (Err r) = IsFirstRefusal (audit_tests before after) (Refused r)
