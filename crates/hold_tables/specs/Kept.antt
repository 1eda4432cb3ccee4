-- Kept: what is true of the tables at any time.
use Rattle.std.specs.Prelude.{◌≡◌, ◌<◌, ◌≤◌, ◌+◌, ◌-◌, ℕ, Bool, true, not, ◌&&◌, List, [], ◌∷◌, length, nat_eq, IfSome, Option}
use Rattle.std.specs.List.{IsDistinct}
use Rattle.process_tree.specs.declared.entry.Entry.{Entry}
use Rattle.process_tree.specs.Conflicts.{Table, operations_in}
use Rattle.process_tree.specs.Order.{Each}
use Rattle.schedule_model.specs.Histories.{of_process}
use Rattle.hold_tables.specs.Tables.{Tables, OpenProcess, is_open, has_number}
use Rattle.hold_tables.specs.Changes.{can_come, steps_of}

-- the table has the operation of the entry
abbrev pub IsKnown : Table → Entry → Type 0
IsKnown table e = e.op < operations_in table

-- the table has each of these reserved steps' operations
abbrev pub AreKnown : Table → List (ℕ × ℕ × ℕ) → Type 0
AreKnown table planned = Each (λ step. step.1 < operations_in table) planned

-- the table has the operation of what is under way
abbrev pub IsKnownRunning : Table → Option Entry → Type 0
IsKnownRunning table running = IfSome running (IsKnown table)

-- no number stands twice
abbrev pub are_numbered : List OpenProcess → Bool
are_numbered [] = true
are_numbered (r ∷ rows) = not (has_number r.process rows) && are_numbered rows

-- a process with these net entries: each is of a step of its plan, which has few enough, no step stands twice, as many as are
-- fixed are there, what is under way is its own and may be, and the table has each operation
pub record IsTidyAmong (table : Table) (es : List Entry) (r : OpenProcess) : Type 0 where
  pub within : Each (λ e. e.step < r.steps) es
  pub once : IsDistinct nat_eq (steps_of es)
  pub fixed : r.fixed ≤ length es
  pub running : IfSome r.running (λ e. (e.process ≡ r.process) × (can_come es r e ≡ true) × IsKnown table e)
  pub reserved : AreKnown table r.reserved
  pub fits : length r.reserved ≤ r.steps
  pub small : r.steps < 65536

-- the same among the net entries of all
abbrev pub IsTidy : Table → List Entry → OpenProcess → Type 0
IsTidy table net r = IsTidyAmong table (of_process r.process net) r

-- each number is that of one process, each net entry is of an open process and of an operation of the table, and each process is
-- tidy
pub record AreTidy (t : Tables) : Type 0 where
  pub numbered : are_numbered t.processes ≡ true
  pub of_open : Each (λ e. is_open t e.process ≡ true) t.net
  pub known : Each (IsKnown t.conflicts) t.net
  pub tidy : Each (IsTidy t.conflicts t.net) t.processes

-- how many steps of a process may still come into the net
abbrev pub room_for : List Entry → OpenProcess → ℕ
room_for net r = r.steps - length (of_process r.process net)

-- how many steps of all of them may
abbrev pub room_for_all : List Entry → List OpenProcess → ℕ
room_for_all net [] = 0
room_for_all net (r ∷ rows) = room_for net r + room_for_all net rows

-- the tables of these are tidy, and the net has room for all that may come
abbrev pub Stands : Table → List Entry → List OpenProcess → ℕ → Type 0
Stands table net rows capacity =
    AreTidy (record { conflicts = table; net = net; processes = rows }) × (length net + room_for_all net rows ≤ capacity)
