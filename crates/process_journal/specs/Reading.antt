-- What is read of file 0: the catalog and the history of which it is the journal, or the first record at fault.
use Rattle.std.specs.Prelude.{◌≡◌, ◌⊎◌, ⊤, ℕ, ◌+◌, false, List, ◌∷◌, ◌++◌, length, Some, Result, Ok, Err}
use Rattle.process_tree.specs.declared.entry.Entry.{Entry}
use Rattle.schedule_model.specs.declared.history.History.{History}
use Rattle.schedule_model.specs.Course.{courses_of, op_of, key_of}
use Rattle.commute_table.specs.declared.catalog.Catalog.{Catalog}
use Rattle.commute_table.specs.Operations.{IsCatalog}
use Rattle.commute_table.specs.Bytes.{bytes_of}
use Rattle.gate_log.specs.Standing.{LogState}
use Rattle.gate_log.specs.declared.errors.LogError.{LogError}
use Rattle.gate_log.specs.declared.errors.LogError.TheVariants.{BadHeader as NoHeader, BadRecord as NotWhole}
use Rattle.journal_records.specs.declared.record.Record.{Record}
use Rattle.journal_records.specs.declared.record.Record.TheVariants as records
use Rattle.journal_records.specs.Bytes.{setup_bytes, record_of}
use Rattle.process_journal.specs.declared.errors.JournalError.{JournalError}
use Rattle.process_journal.specs.declared.errors.JournalError.TheVariants.{DiskFault, BadHeader, BadRecord, BadHistory, NoMemory}
use Rattle.process_journal.specs.Bodies.{journal_bodies}
use Rattle.process_journal.specs.Journals.{is_allowed, IsHistoryUnder, IsMadeBy}

-- the entry with the operation and the key that the plan of its process gives its step
abbrev pub planned : History → Entry → Entry
planned h e = record {
  process = e.process;
  step = e.step;
  op = op_of (courses_of h.plans) e.process e.step;
  key = key_of (courses_of h.plans) e.process e.step;
  undo = e.undo;
}

-- the same of a record
abbrev pub planned_record : History → Record → Record
planned_record h (records.Setup catalog) = records.Setup catalog
planned_record h (records.Start i text) = records.Start i text
planned_record h (records.Act e) = records.Act (planned h e)
planned_record h (records.End i) = records.End i

-- a body makes this of a history
abbrev pub Makes : Catalog → List ℕ → History → History → Type 0
Makes c body h after = (r : Record) × (record_of body ≡ Some r) × IsMadeBy c (planned_record h r) h after

-- a body that makes nothing: it isn't of the form of a record behind the first
abbrev pub HasNoForm : Catalog → History → List ℕ → Type 0
HasNoForm c h body = (after : History) → ¬ Makes c body h after

-- a body that makes a history which isn't legal or is beyond the limits
abbrev pub IsOutOfPlace : Catalog → History → List ℕ → Type 0
IsOutOfPlace c h body = (after : History) × Makes c body h after × (is_allowed c after ≡ false)

-- the bodies before record n are the journal of a history, and record n is at fault in this way
pub record StopsAt (IsAtFault : Catalog → History → List ℕ → Type 0) (bodies : List (List ℕ)) (n : ℕ) : Type 0 where
  pub catalog : Catalog
  pub history : History
  pub good : IsHistoryUnder catalog history
  pub body : List ℕ
  pub rest : List (List ℕ)
  pub is : bodies ≡ journal_bodies catalog history ++ body ∷ rest
  pub number : n ≡ length (journal_bodies catalog history) + 1
  pub fault : IsAtFault catalog history body

-- the first body is missing, or isn't the setup of a catalog
abbrev pub HasNoSetup : List (List ℕ) → Type 0
HasNoSetup bodies = (c : Catalog) (rest : List (List ℕ)) → IsCatalog c → ¬ (bodies ≡ setup_bytes (bytes_of c) ∷ rest)

-- the first record at fault is record n, by its form
abbrev pub IsBadRecord : List (List ℕ) → ℕ → Type 0
IsBadRecord bodies n = ((n ≡ 1) × HasNoSetup bodies) ⊎ StopsAt HasNoForm bodies n

-- the first record at fault is record n, which has a form
abbrev pub IsBadHistory : List (List ℕ) → ℕ → Type 0
IsBadHistory bodies n = StopsAt IsOutOfPlace bodies n

-- a refusal is due where this was found in the file, its bodies or where it is no log; want of memory and faults of the rack
-- are free here
abbrev pub IsDue : Result (List (List ℕ)) LogError → JournalError → Type 0
IsDue found DiskFault = ⊤
IsDue found BadHeader = found ≡ Err NoHeader
IsDue found (BadRecord n) = (found ≡ Err (NotWhole n)) ⊎ ((bodies : List (List ℕ)) × (found ≡ Ok bodies) × IsBadRecord bodies n)
IsDue found (BadHistory n) = (bodies : List (List ℕ)) × (found ≡ Ok bodies) × IsBadHistory bodies n
IsDue found NoMemory = ⊤

-- what `open` answers: the catalog and the history of which the bodies are the journal, or the refusal that is due
abbrev pub OpensAs : Result (List (List ℕ)) LogError → Result (LogState × Catalog × History) JournalError → Type 0
OpensAs found (Ok opened) = (found ≡ Ok (journal_bodies opened.1 opened.2)) × IsHistoryUnder opened.1 opened.2
OpensAs found (Err e) = IsDue found e
