-- Seats: what is kept of each process that started, and what that is at a moment of the machine.
use Rattle.std.specs.Prelude.{◌≡◌, ℕ, Bool, true, false, List, map, find, length, nat_eq, if◌then◌else◌, Option, Some, None}
use Rattle.std.specs.Option.{option_map}
use Rattle.process_tree.specs.Blocks.{numbers_from}
use Rattle.schedule_model.specs.Course.{Course, course, courses_of, shape}
use Rattle.schedule_model.specs.Histories.{acts, is_active, of_process}
use Rattle.schedule_model.specs.declared.event.Event.{Event}
use Rattle.machine_model.specs.declared.began.Began.{Began}
use Rattle.machine_model.specs.declared.replies.PieceState.{PieceState}
use Rattle.machine_model.specs.declared.replies.PieceState.TheVariants.{Out, Dropped, Over}
use Rattle.machine_model.specs.Moment.{Beginning, Lost, Moment, Piece, beginning_of}
use Rattle.machine_model.specs.Pieces.{running_of}
use Rattle.machine_model.specs.State.{process_state}
use Rattle.instance_state.specs.Instances.{InstanceState}
use Rattle.instance_state.specs.OwnActs.{are_in_own_order}
use Rattle.process_tree.specs.declared.plan.Plan.{Plan}
use Rattle.hold_tables.specs.Tables.{Tables}
use Rattle.core_state.specs.OpenTables.{tables_of}
use Rattle.core_state.specs.Cores.{CoreState, IsCore, courses_in, history_of, moment_of}

-- what is kept of a process
pub record SeatState : Type 0 where
  -- how it stands, while it is active
  pub instance : Option InstanceState
  -- the number of its piece that is out, and of the one that was dropped
  pub out : Option ℕ
  pub lost : Option ℕ
  -- when and why it began to complete
  pub began : Option Began

-- a seat of which nothing is known
abbrev pub no_seat : SeatState
no_seat = record { instance = None; out = None; lost = None; began = None }

-- process i alone, while it is active
abbrev pub instance_of : List Course → Moment → ℕ → Option InstanceState
instance_of courses m i =
    if is_active m.events i then Some (record { course = course courses i; state = process_state courses m i }) else None

-- the piece that process i lost, if it lost one
abbrev pub lost_by : Moment → ℕ → Option Lost
lost_by m i = find (λ l. nat_eq l.piece.process i) m.lost

-- what is kept of process i
abbrev pub seat_of : List Course → Moment → ℕ → SeatState
seat_of courses m i = record {
  instance = instance_of courses m i;
  out = option_map (λ (p : Piece). p.number) (running_of m i);
  lost = option_map (λ (l : Lost). l.piece.number) (lost_by m i);
  began = option_map (λ (b : Beginning). b.began) (beginning_of m i);
}

-- this number is the one
abbrev pub is_number : Option ℕ → ℕ → Bool
is_number None n = false
is_number (Some k) n = nat_eq k n

-- dropped at the event at which the process began to complete
abbrev pub dropped_by : Option Began → PieceState
dropped_by None = Over
dropped_by (Some b) = Dropped b.event

-- what became of the piece of this number, by the seat of its process
abbrev pub state_by : SeatState → ℕ → PieceState
state_by s n = if is_number s.out n then Out else (if is_number s.lost n then dropped_by s.began else Over)

-- the acts of each process are in own order
abbrev pub AreInOwnOrder : List Plan → List Event → Type 0
AreInOwnOrder plans h = (i : ℕ) → are_in_own_order (shape (courses_of plans) i) (of_process i (acts h)) ≡ true

-- the seats of all that started
abbrev pub seats_of : List Course → Moment → List SeatState
seats_of courses m = map (seat_of courses m) (numbers_from 1 (length courses))

-- What is kept is what the machine says: it is a core, its history is this one, and the seats and the tables are those of its
-- moment.
pub record Stands (c : CoreState) (h : List Event) (ss : List SeatState) (ts : Tables) : Type 0 where
  pub core : IsCore c
  pub events : history_of c ≡ h
  pub seats : ss ≡ seats_of (courses_in c) (moment_of c)
  pub tables : ts ≡ tables_of c.conflicts (courses_in c) (moment_of c)
