-- Undoing: what blocks the undo of the last pending entry of a process.
use Rattle.std.specs.Prelude.{ℕ, List, [], ◌∷◌, Option, Some, None}
use Rattle.process_tree.specs.declared.entry.Entry.{Entry}
use Rattle.process_tree.specs.Conflicts.{do_conflict}
use Rattle.schedule_model.specs.Blocking.{against_undo}
use Rattle.schedule_model.specs.Histories.{of_process}
use Rattle.machine_model.specs.declared.blocked.Admitted.{Admitted}
use Rattle.machine_model.specs.declared.blocked.Admitted.TheVariants.{Free, Blocked as BlockedBy}
use Rattle.machine_model.specs.declared.blocked.Blocked.{Blocked}
use Rattle.machine_model.specs.Blocks.{blocks_of, least_block}
use Rattle.hold_tables.specs.Tables.{Tables, holdings_of, kept_of, lasts}

-- the first of these, if there is one
abbrev pub first : List Entry → Option Entry
first [] = None
first (e ∷ es) = Some e

-- the last pending entry of a process, if it has one
abbrev pub last_pending : Tables → ℕ → Option Entry
last_pending t i = first (lasts 1 (lasts (kept_of t i).pending (of_process i t.net)))

-- the step of an entry, if there is one
abbrev pub step_of : Option Entry → Option ℕ
step_of None = None
step_of (Some e) = Some e.step

-- the least block of an undo of this entry
abbrev pub undo_block : Tables → Option Entry → Option Blocked
undo_block t None = None
undo_block t (Some x) = least_block (blocks_of (against_undo (do_conflict t.conflicts) (holdings_of t) x))

-- free where there is no block, else blocked by it
abbrev pub admitted : Option Blocked → Admitted
admitted None = Free
admitted (Some b) = BlockedBy b
