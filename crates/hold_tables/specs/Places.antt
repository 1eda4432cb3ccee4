-- Places: where something stands in a list of the tables, counted from 0.
use Rattle.std.specs.Prelude.{ℕ, suc, ◌+◌, List, [], ◌∷◌, nat_eq, if◌then◌else◌, Option, Some, None}
use Rattle.process_tree.specs.declared.entry.Entry.{Entry}
use Rattle.hold_tables.specs.Tables.{OpenProcess}

-- the place of the process with this number
abbrev pub place_of : ℕ → List OpenProcess → ℕ
place_of i [] = 0
place_of i (r ∷ rows) = if nat_eq r.process i then 0 else suc (place_of i rows)

-- how many steps the processes have together
abbrev pub all_steps : List OpenProcess → ℕ
all_steps [] = 0
all_steps (r ∷ rows) = r.steps + all_steps rows

-- the place of an entry before those of which this is the last place of its process
abbrev pub later_place : ℕ → Entry → Option ℕ → Option ℕ
later_place i e (Some place) = Some (place + 1)
later_place i e None = if nat_eq e.process i then Some 0 else None

-- the place of the last entry of process i
abbrev pub last_place : ℕ → List Entry → Option ℕ
last_place i [] = None
last_place i (e ∷ es) = later_place i e (last_place i es)
