-- Admission: what stands against a piece, by the tables of what the open processes hold.
use Rattle.std.specs.Prelude.{◌≡◌, ◌<◌, ℕ, Bool, ◌&&◌, length, List, [], ◌∷◌, ◌++◌, filter, find, map, nat_eq, if◌then◌else◌}
use Rattle.std.specs.Prelude.{Option, Some, None}
use Rattle.process_tree.specs.declared.entry.Entry.{Entry}
use Rattle.process_tree.specs.declared.plan.Plan.{Plan}
use Rattle.process_tree.specs.Blocks.{outline}
use Rattle.process_tree.specs.Conflicts.{do_conflict, operations_in}
use Rattle.process_tree.specs.Entries.{entry_of}
use Rattle.process_tree.specs.Order.{Each}
use Rattle.process_tree.specs.Recovery.{StepClass, reserved, class_by_kind}
use Rattle.process_tree.specs.Shape.{branch_to, greatest, kind_of, shape_of, last_after}
use Rattle.schedule_model.specs.Blocking.{Clashes, against_end, against_step, against_undo}
use Rattle.schedule_model.specs.Histories.{is_in}
use Rattle.machine_model.specs.declared.blocked.Admitted.{Admitted}
use Rattle.machine_model.specs.declared.blocked.Admitted.TheVariants.{Free, Blocked as BlockedBy}
use Rattle.machine_model.specs.declared.blocked.Blocked.{Blocked}
use Rattle.machine_model.specs.declared.replies.Todo.{Todo}
use Rattle.machine_model.specs.declared.replies.Todo.TheVariants.{Forward, Undo, End, Exhausted}
use Rattle.machine_model.specs.Blocks.{blocks_of, least_block}
use Rattle.hold_tables.specs.Tables.{Tables, holdings_of, kept_of}

-- each step of the plan has an operation, and the table has each
pub record IsPlanFor (t : Tables) (plan : Plan) : Type 0 where
  pub operations : length plan.ops ≡ length (outline plan.tree).steps
  pub known : Each (λ op. op < operations_in t.conflicts) plan.ops

-- a step that comes next is one of the plan, and tries are left
abbrev pub IsWithin : Plan → Todo → Type 0
IsWithin plan (Forward b) = b < length (outline plan.tree).steps
IsWithin plan (Undo b) = Unit
IsWithin plan End = Unit
IsWithin plan (Exhausted b) = ⊥

-- the steps that process i has reserved
abbrev pub reserved_steps : Tables → ℕ → List ℕ
reserved_steps t i = map (λ step. step.0) (kept_of t i).reserved

-- the class of step b of process i: reserved where its process has reserved it, else by its kind
abbrev pub class_in_tables : Tables → Plan → ℕ → ℕ → StepClass
class_in_tables t plan i b = if is_in b (reserved_steps t i) then reserved else class_by_kind (kind_of (shape_of plan.tree) b)

-- the steps that follow step b through last alternatives
abbrev pub steps_owed_after : Plan → ℕ → List ℕ
steps_owed_after plan b = let t = shape_of plan.tree in last_after t (branch_to t b ++ b ∷ [])

-- what process i would owe behind its step b
abbrev pub owed_behind : Plan → ℕ → ℕ → List Entry
owed_behind plan i b = map (entry_of plan i) (steps_owed_after plan b)

-- whether the entry is of step b of process i
abbrev pub is_of_step : ℕ → ℕ → Entry → Bool
is_of_step i b e = nat_eq i e.process && nat_eq b e.step

-- the net entry of step b of process i
abbrev pub net_entry : Tables → ℕ → ℕ → Option Entry
net_entry t i b = find (is_of_step i b) t.net

-- nothing stands against it
abbrev pub no_clashes : Clashes
no_clashes = record { a0 = []; a1 = []; a2 = []; a3 = []; a4 = []; a5 = [] }

-- what stands against the undo of an entry, if there is one
abbrev pub against_undo_of : Tables → Option Entry → Clashes
against_undo_of t None = no_clashes
against_undo_of t (Some x) = against_undo (do_conflict t.conflicts) (holdings_of t) x

-- what stands against what process i does next
abbrev pub against_todo : Tables → Plan → ℕ → Todo → Clashes
against_todo t plan i (Forward b) =
    against_step (do_conflict t.conflicts) (holdings_of t) (class_in_tables t plan i b) (entry_of plan i b) (owed_behind plan i b)
against_todo t plan i (Undo b) = against_undo_of t (net_entry t i b)
against_todo t plan i End = against_end (do_conflict t.conflicts) (holdings_of t) i
against_todo t plan i (Exhausted b) = no_clashes

-- free where there is no block, else blocked by it
abbrev pub admitted : Option Blocked → Admitted
admitted None = Free
admitted (Some b) = BlockedBy b

-- whether it may be handed out
abbrev pub admission : Tables → Plan → ℕ → Todo → Admitted
admission t plan i todo = admitted (least_block (blocks_of (against_todo t plan i todo)))

-- the greatest of these numbers whose flag is set
abbrev pub victim : List (ℕ × Bool) → Option ℕ
victim blocked = greatest (map (λ b. b.0) (filter (λ b. b.1) blocked))
