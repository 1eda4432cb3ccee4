-- What it makes of the tables that work comes under way.
use Rattle.std.specs.Prelude.{◌≡◌, ◌<◌, ◌≤◌, ℕ, ◌+◌, Bool, true, false, ◌++◌, length}
use Rattle.process_tree.specs.declared.plan.Plan.{Plan}
use Rattle.process_tree.specs.Blocks.{outline}
use Rattle.process_tree.specs.Entries.{entry_of, undo_of}
use Rattle.process_tree.specs.Recovery.{StepClass, reserved, committing, undoable}
use Rattle.machine_model.specs.declared.kept.Work.{Work}
use Rattle.machine_model.specs.declared.kept.Work.TheVariants.{Forward, Undo, End}
use Rattle.hold_tables.specs.Changes.{can_run, changed, run, with_reserved}
use Rattle.hold_tables.specs.Kept.{AreKnown}
use Rattle.hold_tables.specs.Tables.{Tables, kept_of}
use Rattle.admission.specs.Admission.{class_in_tables}
use Rattle.core_state.specs.OpenTables.{planned_behind}

-- whether a step of this class is a new commit point
abbrev pub is_committing : StepClass → Bool
is_committing reserved = false
is_committing undoable = false
is_committing committing = true

-- a step of this class comes under way: a new commit point reserves what it will make its process owe
abbrev pub step_under_way : Plan → ℕ → ℕ → Tables → StepClass → Tables
step_under_way p i b t reserved = run (entry_of p i b) t
step_under_way p i b t undoable = run (entry_of p i b) t
step_under_way p i b t committing =
    changed (with_reserved ((kept_of t i).reserved ++ planned_behind p b)) i (run (entry_of p i b) t)

-- work on step b of process i comes under way
abbrev pub under_way : Plan → ℕ → ℕ → Tables → Work → Tables
under_way p i b t Forward = step_under_way p i b t (class_in_tables t p i b)
under_way p i b t Undo = run (undo_of (entry_of p i b)) t
under_way p i b t End = t

-- there is room for what it will make its process owe beside what is reserved, and the table has the operations of that
abbrev pub FitsClass : Plan → ℕ → ℕ → Tables → StepClass → Type 0
FitsClass p i b t reserved = Unit
FitsClass p i b t undoable = Unit
FitsClass p i b t committing =
    (length (kept_of t i).reserved + length (planned_behind p b) ≤ length (outline p.tree).steps)
    × AreKnown t.conflicts (kept_of t i).reserved

-- work on step b of process i may come under way
abbrev pub MayComeUnderWay : Plan → ℕ → ℕ → Tables → Work → Type 0
MayComeUnderWay p i b t Forward =
    (b < length (outline p.tree).steps) × (can_run t (entry_of p i b) ≡ true) × FitsClass p i b t (class_in_tables t p i b)
MayComeUnderWay p i b t Undo = (b < length (outline p.tree).steps) × (can_run t (undo_of (entry_of p i b)) ≡ true)
MayComeUnderWay p i b t End = Unit
