-- What is found of a log, and what is printed of that.
use Rattle.std.specs.Prelude.{◌≡◌, ◌<◌, ◌≤◌, ◌+◌, ℕ, List, [], ◌∷◌, ◌++◌, length, map, codes, decimal, Some, None}
use Rattle.process_tree.specs.Blocks.{outline}
use Rattle.process_tree.specs.Conflicts.{do_conflict}
use Rattle.process_tree.specs.declared.plan.Plan.{Plan}
use Rattle.process_text.specs.Canonical.{line_of}
use Rattle.commute_table.specs.declared.catalog.Catalog.{Catalog}
use Rattle.commute_table.specs.declared.op.Op.{Op}
use Rattle.schedule_model.specs.Course.{courses_of}
use Rattle.dependence_model.specs.declared.placed.Placed.{Placed}
use Rattle.trace_verify.specs.declared.form.Form.{Form}
use Rattle.trace_verify.specs.declared.form.Form.TheVariants.{Plain}
use Rattle.process_report.specs.Lines.{Line, entry_line, text_of}
use Rattle.process_report.specs.Report.{form_of}
use Rattle.audit_core.specs.Audits.{IsAudit, most_events}
use Rattle.audit_core.specs.declared.judging.Audited.{Audited}
use Rattle.audit_core.specs.declared.judging.Audited.TheVariants.{Reducible, Barred, Cycle}
use Rattle.audit_text.specs.Logs.{Log}
use Rattle.audit_text.specs.Copies.{first_out_of_order}
use Rattle.serial_values.specs.Told.{values_text}
use Rattle.command_refusals.specs.declared.status.Status.{Status}
use Rattle.command_refusals.specs.declared.status.Status.TheVariants.{Done, BadInput, Limit, NotReduced}
use Rattle.audit_run.specs.declared.judging.Outcome.{Outcome}
use Rattle.audit_run.specs.declared.judging.Outcome.TheVariants.{Events, Steps, OutOfOrder, Found}

-- how many steps the processes of a log may have together
abbrev pub most_steps : ℕ
most_steps = 256

-- the steps of these plans together
abbrev pub steps_in : List Plan → ℕ
steps_in [] = 0
steps_in (p ∷ ps) = length (outline p.tree).steps + steps_in ps

-- the log has few enough events and steps
pub record IsWithin (l : Log) : Type 0 where
  pub events : length l.events ≤ most_events
  pub steps : steps_in l.started ≤ most_steps

-- What is found of a log: it has too many events, or its processes have too many steps, or it leaves own order, which is looked at
-- in this order; and else what an audit answers of it.
abbrev pub IsOutcome : Catalog → Log → Outcome → Type 0
IsOutcome c l (Events n) = (n ≡ length l.events) × (most_events < n)
IsOutcome c l (Steps n) = (length l.events ≤ most_events) × (n ≡ steps_in l.started) × (most_steps < n)
IsOutcome c l (OutOfOrder n) = IsWithin l × (first_out_of_order (courses_of l.started) l.events ≡ Some n)
IsOutcome c l (Found found) =
    IsWithin l × (first_out_of_order (courses_of l.started) l.events ≡ None)
    × IsAudit (do_conflict c.conflicts) (courses_of l.started) l.events found

-- the status of what an audit answers
abbrev pub audited_status : Audited → Status
audited_status (Reducible serial) = Done
audited_status (Barred prefix left) = NotReduced
audited_status (Cycle prefix left processes) = NotReduced

-- and of what is found
abbrev pub outcome_status : Outcome → Status
outcome_status (Events n) = Limit
outcome_status (Steps n) = Limit
outcome_status (OutOfOrder n) = BadInput
outcome_status (Found found) = audited_status found

-- `P do I.STEP OP` or `P undo I.STEP OP`: an entry behind its place, without its key
abbrev pub place_line : List Plan → List Op → Placed → Line
place_line plans ops x = decimal x.place ∷ entry_line Plain plans ops x.entry

-- the entries that are left, with their places
abbrev pub left_text : List Plan → List Op → List Placed → List ℕ
left_text plans ops left = text_of (map (place_line plans ops) left)

-- `cycle prefix N:` and the processes of the cycle
abbrev pub cycle_line : ℕ → List ℕ → List ℕ
cycle_line n processes = line_of ((codes "cycle prefix " ++ decimal n ++ codes ":") ∷ map decimal processes)

-- What is printed of an answer, where a log has this many events: `reducible N`, `serial` and the lines of the serial list; or what
-- is left of the least beginning that can't be reduced, and `barred prefix N` or the line of the cycle.
abbrev pub audited_text : Form → List Plan → List Op → ℕ → Audited → List ℕ
audited_text form plans ops n (Reducible serial) =
    (codes "reducible " ++ decimal n ++ codes "\nserial\n") ++ text_of (map (entry_line form plans ops) serial.items)
audited_text form plans ops n (Barred prefix left) =
    left_text plans ops left.items ++ (codes "barred prefix " ++ decimal prefix ++ codes "\n")
audited_text form plans ops n (Cycle prefix left processes) = left_text plans ops left.items ++ cycle_line prefix processes.items

-- what is printed of what is found
abbrev pub outcome_text : Form → List Plan → List Op → ℕ → Outcome → List ℕ
outcome_text form plans ops n (Events k) = codes "limit events " ++ decimal k ++ codes "\n"
outcome_text form plans ops n (Steps k) = codes "limit total " ++ decimal k ++ codes "\n"
outcome_text form plans ops n (OutOfOrder k) = codes "not own order at " ++ decimal k ++ codes "\n"
outcome_text form plans ops n (Found found) = audited_text form plans ops n found

-- what is told of the values behind an answer: of those that its serial list leaves on empty books, if it has one
abbrev pub audited_values : Catalog → List Plan → Audited → List ℕ
audited_values c plans (Reducible serial) = values_text c plans serial.items
audited_values c plans (Barred prefix left) = []
audited_values c plans (Cycle prefix left processes) = []

-- and behind what is found
abbrev pub outcome_values : Catalog → List Plan → Outcome → List ℕ
outcome_values c plans (Events n) = []
outcome_values c plans (Steps n) = []
outcome_values c plans (OutOfOrder n) = []
outcome_values c plans (Found found) = audited_values c plans found

-- what is found of a log is said, and what it leaves of the values, with its status
pub record IsSaidOf (c : Catalog) (l : Log) (text : List ℕ) (status : Status) : Type 0 where
  pub outcome : Outcome
  pub found : IsOutcome c l outcome
  pub printed : text ≡ outcome_text (form_of c) l.started c.ops (length l.events) outcome ++ outcome_values c l.started outcome
  pub ended : status ≡ outcome_status outcome
