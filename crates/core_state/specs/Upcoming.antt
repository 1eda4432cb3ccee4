-- What the seat of a process says of what it does next.
use Rattle.std.specs.Prelude.{ℕ, Bool, true, false, Option, Some, None, is_some}
use Rattle.machine_model.specs.declared.replies.Todo.{Todo}
use Rattle.machine_model.specs.declared.replies.Todo.TheVariants.{Forward, Undo, End, Exhausted}
use Rattle.machine_model.specs.ProcessState.{todo}
use Rattle.instance_state.specs.Instances.{InstanceState}
use Rattle.core_state.specs.declared.seats.Upcoming.{Upcoming}
use Rattle.core_state.specs.declared.seats.Upcoming.TheVariants.{Ended, Running, UsedUp, Task}
use Rattle.core_state.specs.Seats.{SeatState}

-- its tries are used up, or this is to be done, which was refused n times
abbrev pub upcoming_todo : ℕ → Todo → Upcoming
upcoming_todo n (Forward b) = Task (Forward b) n
upcoming_todo n (Undo b) = Task (Undo b) n
upcoming_todo n End = Task End n
upcoming_todo n (Exhausted b) = UsedUp b

-- it runs, or else what it is told
abbrev pub upcoming_idle : InstanceState → Bool → Upcoming
upcoming_idle x true = Running
upcoming_idle x false = upcoming_todo x.state.refused (todo x.course x.state)

-- it has ended, or else the next
abbrev pub upcoming_of : Option InstanceState → Bool → Upcoming
upcoming_of None runs = Ended
upcoming_of (Some x) runs = upcoming_idle x runs

abbrev pub upcoming : SeatState → Upcoming
upcoming s = upcoming_of s.instance (is_some s.out)
