-- What is kept of a history while it is judged, event by event.
use Rattle.std.specs.Prelude.{◌≡◌, ◌<◌, ◌≤◌, ℕ, ◌+◌, ◌-◌, Bool, true, false, ◌&&◌, List, [], ◌∷◌, ◌++◌, filter, length, nat_eq}
use Rattle.std.specs.Prelude.{nat_le, nat_lt, not, slice_index_or, slice_set, IsTrue, if◌then◌else◌}
use Rattle.std.specs.List.{Contains, list_all, list_any}
use Rattle.process_tree.specs.declared.entry.Entry.{Entry}
use Rattle.process_tree.specs.declared.plan.Plan.{Plan}
use Rattle.process_tree.specs.Conflicts.{Table, do_conflict, operations_in}
use Rattle.process_tree.specs.Recovery.{forward}
use Rattle.process_tree.specs.Shape.{commits}
use Rattle.schedule_model.specs.declared.event.Event.{Event}
use Rattle.schedule_model.specs.declared.event.Event.TheVariants.{Start, Act, End}
use Rattle.schedule_model.specs.Course.{Course, courses_of}
use Rattle.schedule_model.specs.Histories.{active, done_steps, is_active, net, of_process, same_step, starts, steps_of}
use Rattle.schedule_model.specs.Laws.{AreGood}
use Rattle.schedule_model.specs.Legal.{is_legal}
use Rattle.schedule_model.specs.Limits.{entries, need, still_needed}
use Rattle.schedule_model.specs.Recovery.{owed}
use Rattle.history_judging.specs.declared.legality.ProcessRow.{ProcessRow}
use Rattle.schedule_rules.specs.Applying.{AreKnown}
use Rattle.schedule_rules.specs.Recovering.{owed_by}
use Rattle.schedule_rules.specs.Standing.{stands_after}

-- the tables
pub record Tables : Type 0 where
  -- of each process that started, by number
  pub processes : List ProcessRow
  -- the net entries of the active processes, in joint order
  pub net : List Entry
  -- the steps that the active processes owe
  pub owed : List Entry
  -- how many processes are active
  pub active : ℕ
  -- how many acts and ends there are, done and reserved
  pub entries : ℕ

-- the tables of no event
abbrev pub no_tables : Tables
no_tables = record { processes = []; net = []; owed = []; active = 0; entries = 0 }

-- what is kept of a process that hasn't started
abbrev pub not_started : ProcessRow
not_started = record { active = false; bound = 0; needed = 0 }

-- what is kept of process i: processes count from 1
abbrev pub row_of : List ProcessRow → ℕ → ProcessRow
row_of rows i = slice_index_or rows (i - 1) not_started

-- process i is active
abbrev pub is_active_in : List ProcessRow → ℕ → Bool
is_active_in rows i = nat_lt 0 i && (row_of rows i).active

-- this is what is kept of process i
pub record IsRowOf (courses : List Course) (h : List Event) (i : ℕ) (row : ProcessRow) : Type 0 where
  pub active : row.active ≡ is_active h i
  -- a step is at the bound or above where it is greater than every step that ever took effect
  pub bound : (b : ℕ) → nat_le row.bound b ≡ list_all (λ d. nat_lt d b) (done_steps h i)
  pub needed : row.needed ≡ still_needed courses h i

-- these tables are those of the history
pub record IsKept (courses : List Course) (h : List Event) (t : Tables) : Type 0 where
  pub started : length t.processes ≡ length (starts h)
  pub rows : (i : ℕ) → 0 < i → i ≤ length t.processes → IsRowOf courses h i (row_of t.processes i)
  pub net : t.net ≡ filter (λ e. is_active h e.process) (net h)
  -- what each active process owes stands among the rest in its order, and nothing of others does
  pub owed : (i : ℕ) → of_process i t.owed ≡ (if is_active h i then owed courses h i else [])
  pub active : t.active ≡ length (active h)
  pub entries : t.entries ≡ entries courses h

-- these plans are good, and their operations are those of the table
pub record ArePlans (table : Table) (plans : List Plan) : Type 0 where
  pub good : AreGood plans
  pub known : (p : Plan) → Contains plans p → IsTrue (list_all (λ a. nat_lt a (operations_in table)) p.ops)

-- The history is legal over the table, and these are its tables: so it was judged. Among the plans are those of all processes
-- that started.
pub record IsJudged (table : Table) (plans : List Plan) (h : List Event) (t : Tables) : Type 0 where
  pub known : ArePlans table plans
  pub enough : length (starts h) ≤ length plans
  pub legal : IsTrue (is_legal (do_conflict table) (courses_of plans) h)
  pub kept : IsKept (courses_of plans) h t
  pub net_known : AreKnown table t.net
  pub owed_known : AreKnown table t.owed

-- among these plans is that of a process that starts
abbrev pub HasPlan : List Plan → Tables → Event → Type 0
HasPlan plans t (Start i) = length t.processes < length plans
HasPlan plans t (Act e) = Unit
HasPlan plans t (End i) = Unit

-- What an event makes of the tables.

-- the row of process i changes
abbrev pub with_row : (ProcessRow → ProcessRow) → ℕ → List ProcessRow → List ProcessRow
with_row change i rows = slice_set rows (i - 1) (change (row_of rows i))

-- a process of this course starts
abbrev pub started : Course → Tables → Tables
started c t = record {
  processes = t.processes ++ record { active = true; bound = 0; needed = need c } ∷ [];
  net = t.net;
  owed = t.owed;
  active = t.active + 1;
  entries = t.entries + need c;
}

-- one act less is needed
abbrev pub with_act : ProcessRow → ProcessRow
with_act row = record { active = row.active; bound = row.bound; needed = row.needed - 1 }

-- the same, and step b took effect
abbrev pub with_step : ℕ → ProcessRow → ProcessRow
with_step b row = record { active = row.active; bound = b + 1; needed = row.needed - 1 }

-- it isn't active any more
abbrev pub at_end : ProcessRow → ProcessRow
at_end row = record { active = false; bound = row.bound; needed = row.needed }

-- the entries of other processes
abbrev pub of_others : ℕ → List Entry → List Entry
of_others i es = filter (λ e. not (nat_eq e.process i)) es

-- an undo takes effect
abbrev pub undone : Entry → Tables → Tables
undone e t = record {
  processes = with_row with_act e.process t.processes;
  net = stands_after t.net e;
  owed = t.owed;
  active = t.active;
  entries = t.entries;
}

-- what is owed once step e of a process of this course took effect: an owed step isn't any more, and a commit point makes the
-- process owe what follows it
abbrev pub owed_with : Course → List Entry → List Entry → Entry → List Entry
owed_with c es owed e =
    if list_any (same_step e) owed then filter (λ s. not (same_step s e)) owed
    else if commits c.shape e.step then of_others e.process owed
    ++ owed_by c e.process (forward c.shape (steps_of (of_process e.process es) ++ e.step ∷ []))
    else owed

-- a step of a process of this course takes effect
abbrev pub stepped : Course → Entry → Tables → Tables
stepped c e t = record {
  processes = with_row (with_step e.step) e.process t.processes;
  net = stands_after t.net e;
  owed = owed_with c t.net t.owed e;
  active = t.active;
  entries = t.entries;
}

-- process i ends
abbrev pub ended : ℕ → Tables → Tables
ended i t = record {
  processes = with_row at_end i t.processes;
  net = of_others i t.net;
  owed = of_others i t.owed;
  active = t.active - 1;
  entries = t.entries - ((row_of t.processes i).needed - 1);
}
