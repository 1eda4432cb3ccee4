-- A history with its completion.
use Rattle.std.specs.Prelude.{List}
use Rattle.schedule_model.specs.declared.event.Event.{Event}
use Rattle.schedule_model.specs.declared.history.History.{History}
use Rattle.schedule_model.specs.Completion.{completed}
use Rattle.schedule_model.specs.Course.{courses_of}

-- the events of a history and those that complete it
abbrev pub completed_history : History → List Event
completed_history h = completed (courses_of h.plans) h.events
