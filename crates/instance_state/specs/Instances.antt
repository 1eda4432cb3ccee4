-- What an instance is seen as: one process on its way.
use Rattle.std.specs.Prelude.{Bool, true, false, List}
use Rattle.process_tree.specs.declared.entry.Entry.{Entry}
use Rattle.process_tree.specs.declared.plan.Plan.{Plan}
use Rattle.schedule_model.specs.Course.{Course, course_of}
use Rattle.machine_model.specs.declared.replies.Todo.{Todo}
use Rattle.machine_model.specs.declared.replies.Todo.TheVariants.{Forward, Undo, End, Exhausted}
use Rattle.machine_model.specs.ProcessState.{ProcessState, opening_state}

-- a process of this course, and how far it has come
pub record InstanceState : Type 0 where
  pub course : Course
  pub state : ProcessState

-- a process of this plan after these acts of its own, at an opening
abbrev pub opened : Plan → List Entry → InstanceState
opened p acts = record { course = course_of p; state = opening_state (course_of p) acts }

-- the same process in another state
abbrev pub moved_to : InstanceState → ProcessState → InstanceState
moved_to i s = record { course = i.course; state = s }

-- a step or an undo is to be done, which has not been tried too often
abbrev pub is_piece : Todo → Bool
is_piece (Forward b) = true
is_piece (Undo b) = true
is_piece End = false
is_piece (Exhausted b) = false
