-- The laws of what is told of a log, and of histories under other catalogs, as statements.
use Rattle.std.specs.Prelude.{◌≡◌, ◌<◌, ℕ, List, [], length, None, IsTrue, Vec}
use Rattle.std.specs.declared.alloc.Global.{Global}
use Rattle.process_tree.specs.declared.entry.Entry.{Entry}
use Rattle.process_tree.specs.Conflicts.{mode_of}
use Rattle.commute_table.specs.Operations.{IsCatalog}
use Rattle.commute_table.specs.declared.catalog.Catalog.{Catalog}
use Rattle.schedule_model.specs.Course.{courses_of}
use Rattle.schedule_model.specs.Histories.{active, acts}
use Rattle.schedule_model.specs.declared.history.History.{History}
use Rattle.process_journal.specs.Journals.{IsHistoryUnder}
use Rattle.user_guarantees.specs.Tables.{is_no_stricter}
use Rattle.dependence_model.specs.Audited.{completed_schedule}
use Rattle.audit_core.specs.declared.judging.Audited.{Audited}
use Rattle.audit_core.specs.declared.judging.Audited.TheVariants.{Reducible}
use Rattle.audit_text.specs.Copies.{first_out_of_order, IsSound}
use Rattle.audit_text.specs.Logs.{Log}
use Rattle.audit_run.specs.declared.judging.Outcome.TheVariants.{Found}
use Rattle.audit_run.specs.History.{first_refused}
use Rattle.audit_run.specs.Outcomes.{audited_values, IsOutcome}
use Rattle.named_conflicts.specs.Under.{IsUnder, named_mode}
use Rattle.serial_values.specs.Told.{told_values}
use Rattle.value_conflict.specs.ValueConflict.{IsValueSound}

-- what is told of the values of a log that can be reduced is what these entries leave
abbrev pub IsToldOfValues : Catalog → Log → Audited → List Entry → Type 0
IsToldOfValues c l found es = audited_values c l.started found ≡ told_values c.ops l.started es

-- Under a catalog that names each conflict in value, the values that are told of a log are those that its schedule leaves, once it is
-- completed: so those that the log itself leaves, where nobody is active at its end.
pub record LeavesWhatIsTold (c : Catalog) (l : Log) (found : Audited) : Type 0 where
  pub completed : IsToldOfValues c l found (completed_schedule (courses_of l.started) l.events)
  pub ended : active l.events ≡ [] → IsToldOfValues c l found (acts l.events)

abbrev pub LogsLeaveWhatIsTold : Type 0
LogsLeaveWhatIsTold = (c : Catalog) (l : Log) (serial : Vec Entry Global) → IsCatalog c → IsValueSound c → IsSound (length c.ops) l
    → IsOutcome c l (Found (Reducible serial)) → LeavesWhatIsTold c l (Reducible serial)

-- a scenario of the first catalog names no conflict of operations of the second that the second doesn't name too
abbrev pub IsLooser : Catalog → Catalog → Type 0
IsLooser c own = (a b : ℕ) → a < length own.ops → b < length own.ops
    → IsTrue (is_no_stricter (named_mode c own.ops a b) (mode_of own.conflicts a b))

-- Loosening a table makes no journal illegal: under a scenario that names no conflict that its own catalog doesn't, its history is
-- legal.
abbrev pub LooserScenariosAllowJournals : Type 0
LooserScenariosAllowJournals = (c own under : Catalog) (h : History) → IsHistoryUnder own h → IsUnder c own under → IsLooser c own
    → first_refused under h ≡ None

-- And under any the history of a journal is in own order.
abbrev pub JournalsAreInOwnOrder : Type 0
JournalsAreInOwnOrder = (own : Catalog) (h : History) → IsHistoryUnder own h
    → first_out_of_order (courses_of h.plans) h.events ≡ None
