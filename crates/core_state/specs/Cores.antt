-- What a core is seen as: a machine, with the plans of its processes and the table of conflicts.
use Rattle.std.specs.Prelude.{◌≡◌, ◌<◌, ℕ, List, [], Option, Some}
use Rattle.std.specs.List.{Contains}
use Rattle.std.specs.Option.{option_map}
use Rattle.process_tree.specs.declared.plan.Plan.{Plan}
use Rattle.process_tree.specs.Conflicts.{Table, do_conflict, operations_in}
use Rattle.process_tree.specs.Order.{Each}
use Rattle.schedule_model.specs.declared.event.Event.{Event}
use Rattle.schedule_model.specs.Conflict.{ConflictRelation}
use Rattle.schedule_model.specs.Course.{Course, courses_of}
use Rattle.machine_model.specs.declared.kept.Kept.{Kept}
use Rattle.machine_model.specs.declared.began.Began.{Began}
use Rattle.machine_model.specs.Moment.{Moment, Piece, beginning_of}
use Rattle.machine_model.specs.Pieces.{piece_of}
use Rattle.machine_model.specs.Advance.{Machine}
use Rattle.machine_model.specs.Runs.{history, now}
use Rattle.machine_model.specs.Laws.{IsSession}

pub record CoreState : Type 0 where
  pub conflicts : Table
  -- the plan of each process that started, in order
  pub plans : List Plan
  -- the history at the opening
  pub opening : List Event
  -- what was kept since
  pub kept : List Kept
  -- the process to which `next` last handed a piece, and 0 at first
  pub served : ℕ

-- which operations conflict
abbrev pub relation : CoreState → ConflictRelation
relation c = do_conflict c.conflicts

-- the courses of its processes
abbrev pub courses_in : CoreState → List Course
courses_in c = courses_of c.plans

-- the machine that it is
abbrev pub machine_of : CoreState → Machine
machine_of c = record { opening = c.opening; courses = courses_of c.plans; kept = c.kept; served = c.served }

-- the moment to which it has come
abbrev pub moment_of : CoreState → Moment
moment_of c = now (relation c) (machine_of c)

-- its history
abbrev pub history_of : CoreState → List Event
history_of c = history (relation c) (machine_of c)

-- a core that opens on this history
abbrev pub opened_on : Table → List Plan → List Event → CoreState
opened_on conflicts plans h = record { conflicts = conflicts; plans = plans; opening = h; kept = []; served = 0 }

-- it is a run of the machine over good plans that opened on a legal history within the limits, and the table has the operations of
-- its plans
pub record IsCore (c : CoreState) : Type 0 where
  pub session : IsSession (do_conflict c.conflicts) c.plans (machine_of c)
  pub known : (p : Plan) → Contains c.plans p → Each (λ op. op < operations_in c.conflicts) p.ops

-- when and why process i began to complete, if it has
abbrev pub began_in : CoreState → ℕ → Option Began
began_in c i = option_map (λ b. b.began) (beginning_of (moment_of c) i)

-- it handed out this piece
abbrev pub IsHandedBy : CoreState → Piece → Type 0
IsHandedBy c p = piece_of c.kept p.number ≡ Some p
