-- Changes: what each call makes of the tables.
use Rattle.std.specs.Prelude.{ℕ, Bool, false, not, ◌&&◌, List, [], ◌∷◌, ◌++◌, filter, length, map, nat_eq, nat_lt, take}
use Rattle.std.specs.Prelude.{if◌then◌else◌, Option, Some, None}
use Rattle.std.specs.List.{list_any}
use Rattle.process_tree.specs.declared.entry.Entry.{Entry}
use Rattle.process_tree.specs.Conflicts.{Table}
use Rattle.schedule_model.specs.Histories.{is_in, of_process}
use Rattle.hold_tables.specs.Tables.{Tables, OpenProcess, holds_nothing, kept_of, lasts}

-- the tables of no process
abbrev pub none_open : Table → Tables
none_open conflicts = record { conflicts = conflicts; net = []; processes = [] }

-- process i, whose plan has so many steps, is open and holds nothing
abbrev pub opened : ℕ → ℕ → Tables → Tables
opened i steps t = record { conflicts = t.conflicts; net = t.net; processes = t.processes ++ holds_nothing i steps ∷ [] }

-- what is kept of the process with this number is changed
abbrev pub change_numbered : (OpenProcess → OpenProcess) → ℕ → List OpenProcess → List OpenProcess
change_numbered f i [] = []
change_numbered f i (r ∷ rows) = if nat_eq r.process i then f r ∷ rows else r ∷ change_numbered f i rows

-- what is kept of process i is changed, and all else stays
abbrev pub changed : (OpenProcess → OpenProcess) → ℕ → Tables → Tables
changed f i t = record { conflicts = t.conflicts; net = t.net; processes = change_numbered f i t.processes }

-- this is under way
abbrev pub with_running : Option Entry → OpenProcess → OpenProcess
with_running e r =
    record { process = r.process; steps = r.steps; running = e; reserved = r.reserved; fixed = r.fixed; pending = r.pending }

-- so many of the net entries are fixed
abbrev pub with_fixed : ℕ → OpenProcess → OpenProcess
with_fixed n r =
    record { process = r.process; steps = r.steps; running = r.running; reserved = r.reserved; fixed = n; pending = r.pending }

-- these are the reserved steps
abbrev pub with_reserved : List (ℕ × ℕ × ℕ) → OpenProcess → OpenProcess
with_reserved planned r =
    record { process = r.process; steps = r.steps; running = r.running; reserved = planned; fixed = r.fixed; pending = r.pending }

-- only the first so many steps stay reserved
abbrev pub with_first_reserved : ℕ → OpenProcess → OpenProcess
with_first_reserved n r = with_reserved (take n r.reserved) r

-- this is the number of pending entries
abbrev pub with_pending : ℕ → OpenProcess → OpenProcess
with_pending n r =
    record { process = r.process; steps = r.steps; running = r.running; reserved = r.reserved; fixed = r.fixed; pending = n }

-- the entry becomes what is under way in its process
abbrev pub run : Entry → Tables → Tables
run e t = changed (with_running (Some e)) e.process t

-- nothing is under way in process i
abbrev pub stopped : ℕ → Tables → Tables
stopped i t = changed (with_running None) i t

-- whether one of the entries is of process i
abbrev pub has_entry : ℕ → List Entry → Bool
has_entry i es = list_any (λ e. nat_eq e.process i) es

-- without the last entry of process i
abbrev pub without_last : ℕ → List Entry → List Entry
without_last i [] = []
without_last i (e ∷ es) = if nat_eq e.process i && not (has_entry i es) then es else e ∷ without_last i es

-- the net once what is under way in process i took effect: a step is its last entry, an undo takes its last entry away
abbrev pub net_after : ℕ → Option Entry → List Entry → List Entry
net_after i None es = es
net_after i (Some e) es = if e.undo then without_last i es else es ++ e ∷ []

-- what is under way in process i took effect, and nothing is under way in it
abbrev pub took_effect : ℕ → Tables → Tables
took_effect i t = record {
  conflicts = t.conflicts;
  net = net_after i (kept_of t i).running t.net;
  processes = change_numbered (with_running None) i t.processes;
}

-- all net entries of process i are fixed
abbrev pub all_fixed : ℕ → Tables → Tables
all_fixed i t = changed (with_fixed (length (of_process i t.net))) i t

-- process i isn't open, and all that was kept of it is gone
abbrev pub dropped : ℕ → Tables → Tables
dropped i t = record {
  conflicts = t.conflicts;
  net = filter (λ e. not (nat_eq e.process i)) t.net;
  processes = filter (λ r. not (nat_eq r.process i)) t.processes;
}

-- the steps of these entries
abbrev pub steps_of : List Entry → List ℕ
steps_of es = map (λ e. e.step) es

-- an undo of the last of the process's entries, more of which are there than are fixed
abbrev pub undoes_last : Entry → List Entry → ℕ → Bool
undoes_last e es fixed = nat_lt fixed (length es) && is_in e.step (steps_of (lasts 1 es))

-- a step of a plan of so many steps that isn't among those of the entries
abbrev pub is_new_step : Entry → List Entry → ℕ → Bool
is_new_step e es steps = nat_lt e.step steps && not (is_in e.step (steps_of es))

-- whether an entry may come under way in a process that has these net entries
abbrev pub can_come : List Entry → OpenProcess → Entry → Bool
can_come es r e = if e.undo then undoes_last e es r.fixed else is_new_step e es r.steps

-- the entry may come under way: an undo is of the last entry of its process, which isn't fixed, and a step is one of the plan of
-- which the process has no net entry
abbrev pub can_run : Tables → Entry → Bool
can_run t e = can_come (of_process e.process t.net) (kept_of t e.process) e

-- whether an undo is under way
abbrev pub undoes : Option Entry → Bool
undoes None = false
undoes (Some e) = e.undo
