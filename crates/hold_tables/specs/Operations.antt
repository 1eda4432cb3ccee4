-- Operations: which operations are held, and which of them may be against another.
use Rattle.std.specs.Prelude.{◌≡◌, ◌<◌, ℕ, Bool, true, false, ◌&&◌, ◌||◌, List, ◌++◌, map, min, nat_eq, nat_le, take}
use Rattle.std.specs.Prelude.{if◌then◌else◌, length, slice_index_or}
use Rattle.std.specs.List.{list_any}
use Rattle.process_tree.specs.declared.conflicts.Mode.{Mode}
use Rattle.process_tree.specs.declared.conflicts.Mode.TheVariants.{Never, Key, Always}
use Rattle.process_tree.specs.declared.entry.Entry.{Entry}
use Rattle.process_tree.specs.Conflicts.{Table, mode_of, operations_in}
use Rattle.hold_tables.specs.declared.operations.Beside.{Beside}
use Rattle.hold_tables.specs.Tables.{OpenProcess, Tables, holds_nothing, lasts, running_of}
use Rattle.schedule_model.specs.Histories.{of_process}
use Rattle.bit_rows.specs.Cells.{IsTakenOut, cell}

-- whether steps conflict by this mode, if only their keys are so
abbrev pub is_conflict : Mode → Bool
is_conflict Never = false
is_conflict Key = true
is_conflict Always = true

-- whether steps of two operations conflict, if only their keys are so
abbrev pub may_conflict : Table → ℕ → ℕ → Bool
may_conflict table a b = is_conflict (mode_of table a b)

-- the operations of these entries
abbrev pub ops_of : List Entry → List ℕ
ops_of es = map (λ e. e.op) es

-- the operation of what is under way in a process
abbrev pub running_ops : OpenProcess → List ℕ
running_ops r = ops_of (running_of r)

-- the operations of what is to be undone of it
abbrev pub pending_ops : List Entry → OpenProcess → List ℕ
pending_ops net r = ops_of (lasts r.pending (of_process r.process net))

-- the operations of its reserved steps
abbrev pub reserved_ops : OpenProcess → List ℕ
reserved_ops r = map (λ step. step.1) r.reserved

-- the operations of all these
abbrev pub ops_beside : List Entry → OpenProcess → List ℕ
ops_beside net r = running_ops r ++ (pending_ops net r ++ reserved_ops r)

-- the operations of its net entries, of which there are no more than its plan has steps
abbrev pub net_ops : List Entry → OpenProcess → List ℕ
net_ops net r = ops_of (take r.steps (of_process r.process net))

-- whether a step of another operation may be against one of this operation: those from 256 on aren't told apart, so they may
abbrev pub may_be_against : Table → ℕ → ℕ → Bool
may_be_against table op other = nat_le 256 other || may_conflict table op other

-- a process may hold something against the operation beside its net, or something that is to be undone
abbrev pub may_hold : Tables → ℕ → OpenProcess → Bool
may_hold t op r = list_any (may_be_against t.conflicts op) (ops_beside t.net r)

-- the row of an operation: all from 256 on have the last
abbrev pub row_of : ℕ → ℕ
row_of op = min op 256

-- whether one of these operations has the row
abbrev pub has_row : ℕ → List ℕ → Bool
has_row k ops = list_any (λ op. nat_eq (row_of op) k) ops

-- at a place, the rows of these operations are set too
abbrev pub AddsAt : ℕ → List ℕ → List (List Bool) → List (List Bool) → Type 0
AddsAt place ops old new = (k p : ℕ) → cell new k p ≡ ((nat_eq p place && has_row k ops) || cell old k p)

-- at a place, the rows of these operations are set and no others; elsewhere they stay
pub record IsToldAt (place : ℕ) (ops : List ℕ) (old new : List (List Bool)) : Type 0 where
  pub count : length new ≡ length old
  pub tell : (k p : ℕ) → cell new k p ≡ (if nat_eq p place then has_row k ops else cell old k p)

-- at a place, the rows of these operations are set and no others
abbrev pub IsSetAt : ℕ → List ℕ → List (List Bool) → Type 0
IsSetAt place ops bits = (k : ℕ) → cell bits k place ≡ has_row k ops

-- at the place of each process, the rows are set of its operations by f
pub record TellRows (f : OpenProcess → List ℕ) (rows : List OpenProcess) (bits : List (List Bool)) : Type 0 where
  pub count : length bits ≡ 257
  pub tell : (k p : ℕ) → cell bits k p ≡ has_row k (f (slice_index_or rows p (holds_nothing 0 0)))

-- what is kept tells what is under way, to be undone and reserved in each process
pub record TellBeside (net : List Entry) (rows : List OpenProcess) (b : Beside) : Type 0 where
  pub running : TellRows running_ops rows b.running
  pub pending : TellRows (pending_ops net) rows b.pending
  pub reserved : TellRows reserved_ops rows b.reserved

-- there is a row for each operation
pub record HasRows (b : Beside) : Type 0 where
  pub running : length b.running ≡ 257
  pub pending : length b.pending ≡ 257
  pub reserved : length b.reserved ≡ 257

-- a place is taken out of all rows
pub record IsColumnTaken (place : ℕ) (old new : List (List Bool)) : Type 0 where
  pub count : length new ≡ length old
  pub tell : IsTakenOut false place old new

-- of all of it
pub record IsProcessTaken (place : ℕ) (old new : Beside) : Type 0 where
  pub running : IsColumnTaken place old.running new.running
  pub pending : IsColumnTaken place old.pending new.pending
  pub reserved : IsColumnTaken place old.reserved new.reserved

-- whether something in the row is held at the place
abbrev pub is_held_at : Beside → ℕ → ℕ → Bool
is_held_at b k p = cell b.running k p || (cell b.pending k p || cell b.reserved k p)

-- whether the operations of a row may be against this one
abbrev pub is_row_against : Table → ℕ → ℕ → Bool
is_row_against table op k = nat_eq k 256 || may_conflict table op k

-- these are all places where something is held that may be against the operation
pub record AreHolders (table : Table) (b : Beside) (op : ℕ) (who : List Bool) : Type 0 where
  pub all : (k p : ℕ) → is_held_at b k p ≡ true → is_row_against table op k ≡ true → slice_index_or who p false ≡ true
  pub only : (p : ℕ) → slice_index_or who p false ≡ true → (k : ℕ) × (is_held_at b k p ≡ true) × (is_row_against table op k ≡ true)

-- an operation of the table has the row
abbrev pub IsRowOf : Table → ℕ → Type 0
IsRowOf table k = (k < 257) × (k < operations_in table)

-- each row with something is of an operation of the table
abbrev pub AreRowsOf : Table → List (List Bool) → Type 0
AreRowsOf table bits = (k p : ℕ) → cell bits k p ≡ true → IsRowOf table k

-- each row in which something is held is of an operation of the table
abbrev pub AreKnownRows : Table → Beside → Type 0
AreKnownRows table b = (k p : ℕ) → is_held_at b k p ≡ true → IsRowOf table k

-- there is a row for each operation, each of these has something in its row, and each row with something is of an operation of
-- the table
pub record KeepOps (table : Table) (ops : List ℕ) (bits : List (List Bool)) : Type 0 where
  pub count : length bits ≡ 257
  pub covers : (k : ℕ) → has_row k ops ≡ true → (p : ℕ) × (cell bits k p ≡ true)
  pub known : AreRowsOf table bits

-- no row with something may be against this operation
abbrev pub IsClearOf : Table → ℕ → List (List Bool) → Type 0
IsClearOf table op bits = (k p : ℕ) → k < 257 → cell bits k p ≡ true → is_row_against table op k ≡ false
