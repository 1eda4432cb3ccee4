-- Tables: what the open processes hold, as plain lists.
use Rattle.std.specs.Prelude.{ℕ, Bool, ◌-◌, List, [], ◌∷◌, drop, length, map, nat_eq, if◌then◌else◌, Option, None, false}
use Rattle.std.specs.List.{list_any}
use Rattle.std.specs.Option.{option_to_list}
use Rattle.process_tree.specs.declared.entry.Entry.{Entry}
use Rattle.process_tree.specs.Conflicts.{Table}
use Rattle.schedule_model.specs.Histories.{of_process}
use Rattle.schedule_model.specs.Holdings.{Hold, Holdings}

-- what is kept of one open process beside its net entries
pub record OpenProcess : Type 0 where
  pub process : ℕ
  -- how many steps its plan has
  pub steps : ℕ
  -- the step or undo that is under way
  pub running : Option Entry
  -- the steps that are reserved, each with its operation and its key
  pub reserved : List (ℕ × ℕ × ℕ)
  -- how many of its net entries, from the first on, are never undone
  pub fixed : ℕ
  -- how many of its net entries, from the last on, are to be undone
  pub pending : ℕ

-- the table of conflicts, the net entries of the open processes in joint order, and the open processes in the order in which
-- they were opened
pub record Tables : Type 0 where
  pub conflicts : Table
  pub net : List Entry
  pub processes : List OpenProcess

-- whether one of these has the number
abbrev pub has_number : ℕ → List OpenProcess → Bool
has_number i rows = list_any (λ r. nat_eq r.process i) rows

-- whether a process is open
abbrev pub is_open : Tables → ℕ → Bool
is_open t i = has_number i t.processes

-- a process that holds nothing
abbrev pub holds_nothing : ℕ → ℕ → OpenProcess
holds_nothing i steps = record { process = i; steps = steps; running = None; reserved = []; fixed = 0; pending = 0 }

-- what is kept of the process with this number
abbrev pub numbered : ℕ → List OpenProcess → OpenProcess
numbered i [] = holds_nothing i 0
numbered i (r ∷ rows) = if nat_eq r.process i then r else numbered i rows

-- what is kept of an open process
abbrev pub kept_of : Tables → ℕ → OpenProcess
kept_of t i = numbered i t.processes

-- the last n of a list, or all where there are fewer
abbrev pub lasts : {A : Type 0} → ℕ → List A → List A
lasts n xs = drop (length xs - n) xs

-- a reserved step as an entry of its process
abbrev pub reserved_entry : ℕ → ℕ × ℕ × ℕ → Entry
reserved_entry i step = record { process = i; step = step.0; op = step.1; key = step.2; undo = false }

-- the reserved steps of a process
abbrev pub reserved_of : OpenProcess → List Entry
reserved_of r = map (reserved_entry r.process) r.reserved

-- what is under way in it
abbrev pub running_of : OpenProcess → List Entry
running_of r = option_to_list r.running

-- what one process holds, its net entries being among these
abbrev pub hold_in : List Entry → OpenProcess → Hold
hold_in net r = record {
  process = r.process;
  running = r.running;
  reserved = reserved_of r;
  pending = lasts r.pending (of_process r.process net);
  backward_entries = drop r.fixed (of_process r.process net);
}

-- the holdings that the tables stand for
abbrev pub holdings_of : Tables → Holdings
holdings_of t = record { net = t.net; holds = map (hold_in t.net) t.processes }
