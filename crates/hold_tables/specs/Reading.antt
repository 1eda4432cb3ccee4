-- Reading: what is looked up in the tables.
use Rattle.std.specs.Prelude.{ℕ, Bool, not, ◌&&◌, ◌||◌, List, [], ◌∷◌, ◌++◌, filter, map, nat_eq, nat_le, nat_lt, if◌then◌else◌}
use Rattle.std.specs.Prelude.{Option, Some, None}
use Rattle.process_tree.specs.declared.entry.Entry.{Entry}
use Rattle.process_tree.specs.Conflicts.{Access, Table, do_conflict}
use Rattle.process_tree.specs.Entries.{access_of}
use Rattle.schedule_model.specs.Holdings.{all_running, all_reserved}
use Rattle.hold_tables.specs.declared.against.Sought.{Sought}
use Rattle.hold_tables.specs.Tables.{Tables, holdings_of}

-- the lesser of two numbers, if there is another
abbrev pub lesser_number : ℕ → Option ℕ → Option ℕ
lesser_number n None = Some n
lesser_number n (Some m) = if nat_lt m n then Some m else Some n

-- the least of these numbers that is at least so much, or else this
abbrev pub least_or : Option ℕ → ℕ → List ℕ → Option ℕ
least_or other from [] = other
least_or other from (n ∷ ns) = if nat_le from n then lesser_number n (least_or other from ns) else least_or other from ns

-- the least of these numbers that is at least so much
abbrev pub least_from : ℕ → List ℕ → Option ℕ
least_from from ns = least_or None from ns

-- the least open process whose number is at least so much
abbrev pub next_open : Tables → ℕ → Option ℕ
next_open t from = least_from from (map (λ r. r.process) t.processes)

-- the order of steps: by process, then by step
abbrev pub is_before : ℕ × ℕ → ℕ × ℕ → Bool
is_before a b = nat_lt a.0 b.0 || (nat_eq a.0 b.0 && nat_lt a.1 b.1)

-- the lesser of a step and of another, if there is one
abbrev pub lesser : ℕ × ℕ → Option (ℕ × ℕ) → Option (ℕ × ℕ)
lesser a None = Some a
lesser a (Some b) = if is_before b a then Some b else Some a

-- the first by process and step of these and of another, if there is one
abbrev pub least_step : Option (ℕ × ℕ) → List Entry → Option (ℕ × ℕ)
least_step other [] = other
least_step other (e ∷ es) = lesser (e.process, e.step) (least_step other es)

-- the access that is sought
abbrev pub access_sought : Sought → Access
access_sought s = record { op = s.op; key = s.key }

-- an entry of another process than i whose access conflicts with this one
abbrev pub is_against : Table → ℕ → Access → Entry → Bool
is_against table i access e = not (nat_eq e.process i) && do_conflict table access (access_of e)

-- all net entries, all that is under way, and all reserved steps
abbrev pub all_held : Tables → List Entry
all_held t = let g = holdings_of t in t.net ++ all_running g ++ all_reserved g

-- the least other process and step that holds a net entry, has one under way, or reserves one against the access
abbrev pub holder_against : Tables → ℕ → Access → Option (ℕ × ℕ)
holder_against t i access = least_step None (filter (is_against t.conflicts i access) (all_held t))
