-- What the effect of a piece makes of what is kept.
use Rattle.std.specs.Prelude.{◌≡◌, ◌<◌, ℕ, true, false, length, Option, Some, None, is_some, unwrap_or, if◌then◌else◌}
use Rattle.std.specs.Option.{option_map}
use Rattle.process_tree.specs.declared.entry.Entry.{Entry}
use Rattle.process_tree.specs.declared.plan.Plan.{Plan}
use Rattle.process_tree.specs.Blocks.{outline}
use Rattle.process_tree.specs.Conflicts.{operations_in}
use Rattle.process_tree.specs.Making.{tree_fault}
use Rattle.process_tree.specs.Order.{Each}
use Rattle.process_tree.specs.Shape.{commits, shape_of}
use Rattle.schedule_model.specs.declared.event.Event.{Event}
use Rattle.schedule_model.specs.declared.event.Event.TheVariants.{Act, End as End'}
use Rattle.machine_model.specs.declared.kept.Work.{Work}
use Rattle.machine_model.specs.declared.kept.Work.TheVariants.{Forward, Undo, End}
use Rattle.machine_model.specs.ProcessState.{effected, pending_count}
use Rattle.machine_model.specs.Progress.{same_work}
use Rattle.instance_state.specs.Instances.{InstanceState, moved_to}
use Rattle.hold_tables.specs.Changes.{all_fixed, changed, dropped, took_effect, with_pending, with_reserved}
use Rattle.hold_tables.specs.Tables.{Tables, is_open, kept_of}
use Rattle.core_state.specs.OpenTables.{planned_behind}
use Rattle.core_state.specs.Seats.{SeatState}

-- how a process stands after the effect of this work: after its end it isn't active
abbrev pub instance_effected : Work → Option InstanceState → Option InstanceState
instance_effected Forward x = option_map (λ i. moved_to i (effected i.state)) x
instance_effected Undo x = option_map (λ i. moved_to i (effected i.state)) x
instance_effected End x = None

-- the seat of the process: no piece of it is out
abbrev pub seat_effected : Work → SeatState → SeatState
seat_effected w s = record { instance = instance_effected w s.instance; out = None; lost = s.lost; began = s.began }

-- step b of process i, which is under way, took effect: a commit point fixes all and reserves what follows it
abbrev pub step_effected : Plan → ℕ → ℕ → Tables → Tables
step_effected p i b t =
    let after = took_effect i t in
    if commits (shape_of p.tree) b then changed (with_reserved (planned_behind p b)) i (all_fixed i after) else after

-- the tables, where n entries of the process are to be undone after it
abbrev pub tables_effected : Plan → ℕ → ℕ → Work → ℕ → Tables → Tables
tables_effected p i b Forward n t = changed (with_pending n) i (step_effected p i b t)
tables_effected p i b Undo n t = changed (with_pending n) i (took_effect i t)
tables_effected p i b End n t = dropped i t

-- the event that what process i has under way makes once it took effect
abbrev pub event_told : ℕ → Option Entry → Event
event_told i None = End' i
event_told i (Some e) = Act e

-- The tables hold work on step b of process i, which is of this plan.
pub record HoldsWork (p : Plan) (i b : ℕ) (w : Work) (t : Tables) : Type 0 where
  pub held : is_open t i ≡ true
  pub running : same_work w End ≡ false → is_some (kept_of t i).running ≡ true
  pub steps : (kept_of t i).steps ≡ length (outline p.tree).steps
  pub step : w ≡ Forward → b < length (outline p.tree).steps
  pub good : tree_fault p.tree ≡ None
  pub operations : length p.ops ≡ length (outline p.tree).steps
  pub known : Each (λ op. op < operations_in t.conflicts) p.ops

-- how many entries are to be undone, and none of a process that isn't active
abbrev pub pending_in : Option InstanceState → ℕ
pending_in x = unwrap_or (option_map (λ i. pending_count i.state) x) 0
