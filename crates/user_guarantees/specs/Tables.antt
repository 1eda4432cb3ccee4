-- Tables with fewer conflicts, and what they allow.
use Rattle.std.specs.Prelude.{◌≡◌, ◌≤◌, ℕ, Bool, true, false, List, IsTrue, Some}
use Rattle.process_tree.specs.Conflicts.{Access, Table, do_conflict, mode_of}
use Rattle.process_tree.specs.declared.conflicts.Mode.{Mode}
use Rattle.process_tree.specs.declared.conflicts.Mode.TheVariants.{Never, Key, Always}
use Rattle.schedule_model.specs.declared.event.Event.{Event}
use Rattle.schedule_model.specs.Course.{Course}
use Rattle.schedule_model.specs.Conflict.{ConflictRelation}
use Rattle.schedule_model.specs.Legal.{first_illegal, is_legal}

-- one relation names no conflict that the other doesn't
abbrev pub IsWithin : ConflictRelation → ConflictRelation → Type 0
IsWithin less table = (a b : Access) → IsTrue (less a b) → IsTrue (table a b)

-- Fewer conflicts allow more: a legal history is legal under each relation with fewer conflicts.
abbrev pub FewerConflictsAllowMore : Type 0
FewerConflictsAllowMore = (less table : ConflictRelation) (courses : List Course) (h : List Event) → IsWithin less table
    → IsTrue (is_legal table courses h) → IsTrue (is_legal less courses h)

-- And a history that isn't is judged so no earlier: where an event is the first that may not come under fewer conflicts, one up
-- to it is the first under more.
abbrev pub FewerConflictsFailNoEarlier : Type 0
FewerConflictsFailNoEarlier = (less table : ConflictRelation) (courses : List Course) (h : List Event) (n : ℕ)
    → IsWithin less table → first_illegal less courses h ≡ Some n → (k : ℕ) × (first_illegal table courses h ≡ Some k) × (k ≤ n)

-- a mode makes no two steps conflict that another doesn't: never is the loosest, then on equal keys, then always
abbrev pub is_no_stricter : Mode → Mode → Bool
is_no_stricter Never strict = true
is_no_stricter Key Never = false
is_no_stricter Key Key = true
is_no_stricter Key Always = true
is_no_stricter Always Never = false
is_no_stricter Always Key = false
is_no_stricter Always Always = true

-- a table is no stricter than another where its mode isn't, for each pair of operations
abbrev pub IsNoStricter : Table → Table → Type 0
IsNoStricter loose strict = (a b : ℕ) → IsTrue (is_no_stricter (mode_of loose a b) (mode_of strict a b))

-- Loosening a table makes no history illegal.
abbrev pub LooserTablesAllowMore : Type 0
LooserTablesAllowMore = (loose strict : Table) (courses : List Course) (h : List Event) → IsNoStricter loose strict
    → IsTrue (is_legal (do_conflict strict) courses h) → IsTrue (is_legal (do_conflict loose) courses h)
