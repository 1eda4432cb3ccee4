-- Slots: the open processes in rows of bits.
use Rattle.std.specs.Prelude.{◌≡◌, ◌<◌, ℕ, List, Bool, false, length, slice_index_or, if◌then◌else◌, Option, Some, None}
use Rattle.process_tree.specs.Conflicts.{do_conflict}
use Rattle.schedule_model.specs.Histories.{is_in}
use Rattle.schedule_model.specs.Holdings.{reaches}
use Rattle.bit_rows.specs.Cells.{cell}
use Rattle.hold_tables.specs.Places.{place_of}
use Rattle.hold_tables.specs.Operations.{may_hold, net_ops, pending_ops, reserved_ops, running_ops}
use Rattle.hold_tables.specs.Tables.{OpenProcess, Tables, holdings_of, is_open, kept_of}

-- the slot of a process, if it is open: its place among the open ones
abbrev pub slot : Tables → ℕ → Option ℕ
slot t i = if is_open t i then Some (place_of i t.processes) else None

-- the bits at the slots of two processes say whether a walk of the conflict graph leads from the one to the other
abbrev pub TellReach : Tables → List (List Bool) → Type 0
TellReach t bits =
    (i k a b : ℕ) → slot t i ≡ Some a → slot t k ≡ Some b → cell bits a b ≡ reaches (do_conflict t.conflicts) (holdings_of t) i k

-- the bit at an operation and the slot of a process says whether the operation is among those of the process by f
abbrev pub TellOpsOf : (OpenProcess → List ℕ) → Tables → List (List Bool) → Type 0
TellOpsOf f t bits = (op i a : ℕ) → op < 256 → slot t i ≡ Some a → cell bits op a ≡ is_in op (f (kept_of t i))

-- whether the process has the operation under way
abbrev pub TellRunning : Tables → List (List Bool) → Type 0
TellRunning t bits = TellOpsOf running_ops t bits

-- whether it is of one of the entries that are to be undone
abbrev pub TellPending : Tables → List (List Bool) → Type 0
TellPending t bits = TellOpsOf (pending_ops t.net) t bits

-- whether it is of a reserved step
abbrev pub TellReserved : Tables → List (List Bool) → Type 0
TellReserved t bits = TellOpsOf reserved_ops t bits

-- whether it is of one of its net entries
abbrev pub TellNet : Tables → List (List Bool) → Type 0
TellNet t bits = TellOpsOf (net_ops t.net) t bits

-- the row says of each place of an open process whether the process may hold something against the operation beside its net
abbrev pub TellWho : Tables → ℕ → List Bool → Type 0
TellWho t op who = (p : ℕ) (d : OpenProcess) → p < length t.processes
    → slice_index_or who p false ≡ may_hold t op (slice_index_or t.processes p d)
