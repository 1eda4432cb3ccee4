-- Legal histories: one test for each event, on what stands before it.
use Rattle.std.specs.Prelude.{ℕ, Bool, true, ◌&&◌, List, [], length, nat_eq, if◌then◌else◌, Option}
use Rattle.process_tree.specs.declared.entry.Entry.{Entry}
use Rattle.process_tree.specs.Recovery.{StepClass, class_of}
use Rattle.schedule_model.specs.declared.event.Event.{Event}
use Rattle.schedule_model.specs.declared.event.Event.TheVariants.{Start, Act, End}
use Rattle.schedule_model.specs.Course.{Course, shape}
use Rattle.schedule_model.specs.Conflict.{ConflictRelation}
use Rattle.schedule_model.specs.EachEvent.{each_passes, first_failing}
use Rattle.schedule_model.specs.Histories.{net_steps}
use Rattle.schedule_model.specs.Recovery.{owed_after}
use Rattle.schedule_model.specs.OwnOrder.{keeps_order}
use Rattle.schedule_model.specs.Holdings.{at_rest}
use Rattle.schedule_model.specs.Blocking.{Clashes, against_step, against_undo, against_end, all_clashes}

-- the class of step b of process i
abbrev pub class_in : List Course → List Event → ℕ → ℕ → StepClass
class_in courses h i b = class_of (shape courses i) (net_steps h i) b

-- what stands against an entry with nothing under way and nothing pending
abbrev pub against_entry : ConflictRelation → List Course → List Event → Entry → Clashes
against_entry table courses h e =
    if e.undo then against_undo table (at_rest courses h) e
    else against_step table (at_rest courses h) (class_in courses h e.process e.step) e (owed_after courses h e.process e.step)

-- the same of an event
abbrev pub against_event : ConflictRelation → List Course → List Event → Event → Clashes
against_event table courses h (Start i) = record { a0 = []; a1 = []; a2 = []; a3 = []; a4 = []; a5 = [] }
against_event table courses h (Act e) = against_entry table courses h e
against_event table courses h (End i) = against_end table (at_rest courses h) i

-- nothing stands against the event
abbrev pub is_clear : ConflictRelation → List Course → List Event → Event → Bool
is_clear table courses h e = nat_eq (length (all_clashes (against_event table courses h e))) 0

-- the event may come: it keeps the own order of its process, and nothing stands against it
abbrev pub may_come : ConflictRelation → List Course → List Event → Event → Bool
may_come table courses h e = keeps_order courses h e && is_clear table courses h e

-- each of these events may come after those before it; before are those that were looked at
abbrev pub goes_legally : ConflictRelation → List Course → List Event → List Event → Bool
goes_legally table courses before h = each_passes (may_come table courses) before h

-- a history is legal where each of its events may come after those before it
abbrev pub is_legal : ConflictRelation → List Course → List Event → Bool
is_legal table courses h = goes_legally table courses [] h

-- the place of the first event that may not come, the first of these having place n
abbrev pub first_illegal_from : ConflictRelation → List Course → ℕ → List Event → List Event → Option ℕ
first_illegal_from table courses n before h = first_failing (may_come table courses) n before h

-- the same of a whole history, counted from 1
abbrev pub first_illegal : ConflictRelation → List Course → List Event → Option ℕ
first_illegal table courses h = first_illegal_from table courses 1 [] h

-- an event keeps own order, and nothing stands against it if it is an undo or an end
abbrev pub keeps_and_ends_clear : ConflictRelation → List Course → List Event → Event → Bool
keeps_and_ends_clear table courses h (Start i) = keeps_order courses h (Start i)
keeps_and_ends_clear table courses h (Act e) =
    keeps_order courses h (Act e) && (if e.undo then is_clear table courses h (Act e) else true)
keeps_and_ends_clear table courses h (End i) = keeps_order courses h (End i) && is_clear table courses h (End i)

-- a history is reducible where each of its events is so: less than legal, and enough for the reduction
abbrev pub is_reducible : ConflictRelation → List Course → List Event → Bool
is_reducible table courses h = each_passes (keeps_and_ends_clear table courses) [] h
