-- Names by numbers, in the order in which they first come.
use Rattle.std.specs.Prelude.{◌≡◌, ℕ, zero, suc, ◌+◌, List, [], ◌∷◌, ◌++◌, Bool, false, ◌&&◌, ◌||◌, nat_eq, map, if◌then◌else◌}
use Rattle.std.specs.Prelude.{Option, Some, None}
use Rattle.std.specs.List.{list_any}
use Rattle.process_tree.specs.Making.{same_text}
use Rattle.process_tree.specs.Conflicts.{Access, covers}
use Rattle.process_tree.specs.declared.entry.Entry.{Entry}
use Rattle.schedule_model.specs.Conflict.{ConflictRelation}
use Rattle.trace_verify.specs.Forms.{NamedAct, Pair}
use Rattle.trace_verify.specs.Reports.{Report}

-- a name is among these
abbrev pub is_among : List (List ℕ) → List ℕ → Bool
is_among names w = list_any (same_text w) names

-- the names with one more, if it is new
abbrev pub with_name : List (List ℕ) → List ℕ → List (List ℕ)
with_name names w = if is_among names w then names else names ++ w ∷ []

-- the names with these more
abbrev pub with_names : List (List ℕ) → List (List ℕ) → List (List ℕ)
with_names names [] = names
with_names names (w ∷ ws) = with_names (with_name names w) ws

-- the number of a name: how many stand before it
abbrev pub number_among : List (List ℕ) → List ℕ → ℕ
number_among [] w = 0
number_among (n ∷ names) w = if same_text w n then 0 else number_among names w + 1

-- the number of a name, if it is among these
abbrev pub found : List (List ℕ) → List ℕ → Option ℕ
found names w = if is_among names w then Some (number_among names w) else None

-- whether this is the name of that number
abbrev pub is_named : List (List ℕ) → ℕ → List ℕ → Bool
is_named [] k w = false
is_named (n ∷ names) zero w = same_text w n
is_named (n ∷ names) (suc k) w = is_named names k w

-- each of these names stands once: it is the name of its own number alone
abbrev pub StandOnce : List (List ℕ) → Type 0
StandOnce names = (k : ℕ) (w : List ℕ) → is_named names k w ≡ (is_among names w && nat_eq (number_among names w) k)

-- the names of the steps of these acts
abbrev pub step_names : List NamedAct → List (List ℕ)
step_names acts = with_names [] (map (λ a. a.step) acts)

-- and of their operations
abbrev pub op_names : List NamedAct → List (List ℕ)
op_names acts = with_names [] (map (λ a. a.op) acts)

-- an act as an entry: its step and its operation by their numbers, and its key
abbrev pub entry_of : List (List ℕ) → List (List ℕ) → NamedAct → Entry
entry_of steps ops a =
    record { process = a.process; step = number_among steps a.step; op = number_among ops a.op; key = a.key; undo = a.undo }

-- the list that a report says: the acts of history and completion
abbrev pub schedule : List NamedAct → List Entry
schedule acts = map (entry_of (step_names acts) (op_names acts)) acts

-- a line names these two operations, in this order or the other
abbrev pub names_both : List (List ℕ) → ℕ → ℕ → Pair → Bool
names_both ops a b p = (is_named ops a p.first && is_named ops b p.second) || (is_named ops b p.first && is_named ops a p.second)

-- a line makes these two conflict: it names both operations, and its mode covers the keys
abbrev pub line_covers : List (List ℕ) → Access → Access → Pair → Bool
line_covers ops a b p = names_both ops a.op b.op p && covers p.mode a.key b.key

-- Two accesses conflict where a line says so. An operation that no line names conflicts with nothing, and where two lines name
-- both operations with different modes, they conflict always.
abbrev pub conflicts : List Pair → List (List ℕ) → ConflictRelation
conflicts pairs ops a b = list_any (line_covers ops a b) pairs

-- the relation of a report
abbrev pub conflicts_of : Report → ConflictRelation
conflicts_of r = conflicts r.pairs (op_names r.acts)
