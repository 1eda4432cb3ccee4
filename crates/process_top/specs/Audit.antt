-- The command `audit`.
use Rattle.std.specs.Prelude.{◌≡◌, ◌≤◌, ℕ, List, [], ◌∷◌, length, Some, None, Ok, Err}
use Rattle.process_disk.specs.Disk.{Told}
use Rattle.process_tree.specs.Conflicts.{do_conflict}
use Rattle.process_tree.specs.declared.plan.Plan.{Plan}
use Rattle.commute_table.specs.declared.catalog.Catalog.{Catalog}
use Rattle.schedule_model.specs.declared.history.History.{History}
use Rattle.schedule_model.specs.Course.{courses_of}
use Rattle.process_journal.specs.Journals.{IsHistoryUnder}
use Rattle.process_journal.specs.Opened.{IsJournalOf}
use Rattle.session_text.specs.Sessions.{scenario_of}
use Rattle.dependence_model.specs.Audited.{IsPrefixReducible}
use Rattle.audit_text.specs.Logs.{Log, log_of}
use Rattle.audit_text.specs.Copies.{first_out_of_order}
use Rattle.audit_run.specs.Audit.{IsAuditDue as IsAuditFound}
use Rattle.audit_run.specs.History.{IsHistoryAuditDue as IsHistoryAuditFound}
use Rattle.audit_run.specs.Outcomes.{IsWithin}
use Rattle.command_refusals.specs.declared.status.Status.{Status}
use Rattle.command_refusals.specs.declared.status.Status.TheVariants.{Done, BadInput, Limit, NotReduced, NoMemory}
use Rattle.command_refusals.specs.Statuses.{IsOneOf}
use Rattle.command_input.specs.Inputs.{Input, most_input}
use Rattle.command_input.specs.FilesLeft.{Files}
use Rattle.command_input.specs.Scenarios.{IsBound}
use Rattle.process_top.specs.Replies.{Reply, ended, refused}

-- what is found of the log behind the scenario; or the verdict line of its first process that isn't well-formed; or what is refused
abbrev pub IsAuditDue : Input → Input → Reply → Type 0
IsAuditDue before after (ended said) = IsAuditFound before after (Ok said)
IsAuditDue before after (refused r) = IsAuditFound before after (Err r)
IsAuditDue before after reply = ⊥

-- what is found of the history of file 0 under the scenario; or that verdict line; or what is refused
abbrev pub IsHistoryAuditDue : Input → Input → Files → Files → Reply → Type 0
IsHistoryAuditDue before after files files_after (ended said) = IsHistoryAuditFound before after files files_after (Ok said)
IsHistoryAuditDue before after files files_after (refused r) = IsHistoryAuditFound before after files files_after (Err r)
IsHistoryAuditDue before after files files_after reply = ⊥

-- the log is within the limits and in own order
pub record IsAuditable (l : Log) : Type 0 where
  pub within : IsWithin l
  pub in_order : first_out_of_order (courses_of l.started) l.events ≡ None

-- Wherever the log is cut off, what it is completed to can be reduced.
abbrev pub IsReducible : Catalog → Log → Type 0
IsReducible c l = IsPrefixReducible (do_conflict c.conflicts) (courses_of l.started) l.events

-- The input divides into a scenario and a log behind it, of which this holds.
pub record HasLog (input : Input) (bytes : List ℕ) (c : Catalog) (plans : List Plan) (Holds : Log → Type 0) : Type 0 where
  pub told : input.left ≡ Some bytes
  pub few : length bytes ≤ most_input
  pub bound : IsBound (scenario_of bytes) c plans
  pub log : (ps : List Plan) → IsBound (scenario_of bytes) c ps → (l : Log) × (log_of ps bytes ≡ Ok l) × IsAuditable l × Holds l

-- A log within the limits and in own order is audited, or memory is wanting: the status is 0 where each beginning can be reduced,
-- and else that of a log that can't.
pub record IsAuditComplete (input : Input) (status : Status) : Type 0 where
  pub reducible : (bytes : List ℕ) (c : Catalog) (plans : List Plan) → HasLog input bytes c plans (IsReducible c)
      → IsOneOf status (Done ∷ NoMemory ∷ [])
  pub irreducible : (bytes : List ℕ) (c : Catalog) (plans : List Plan) → HasLog input bytes c plans (λ l. ¬ IsReducible c l)
      → IsOneOf status (NotReduced ∷ NoMemory ∷ [])

-- Where the input is a scenario and file 0 the journal of a history, the history is audited, or memory is wanting.
abbrev pub IsHistoryAuditComplete : Input → Files → Status → Type 0
IsHistoryAuditComplete input files status =
    (bytes : List ℕ) (c : Catalog) (plans : List Plan) (own : Catalog) (h : History) → input.left ≡ Some bytes
    → length bytes ≤ most_input → IsBound bytes c plans → IsHistoryUnder own h → Told files.disk → IsJournalOf own h files.disk.files
    → IsOneOf status (Done ∷ BadInput ∷ Limit ∷ NotReduced ∷ NoMemory ∷ [])
