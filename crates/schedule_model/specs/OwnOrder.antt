-- Own order: which event may come next for the process that it is of, whatever the others do.
use Rattle.std.specs.Prelude.{ℕ, ◌+◌, Bool, ◌&&◌, false, List, [], ◌∷◌, length, nat_eq, nat_lt, if◌then◌else◌}
use Rattle.std.specs.List.{list_all}
use Rattle.process_tree.specs.Entries.{access_of}
use Rattle.process_tree.specs.Conflicts.{same_access}
use Rattle.process_tree.specs.declared.entry.Entry.{Entry}
use Rattle.process_tree.specs.Shape.{goes_on_to, is_end}
use Rattle.schedule_model.specs.declared.event.Event.{Event}
use Rattle.schedule_model.specs.declared.event.Event.TheVariants.{Start, Act, End}
use Rattle.schedule_model.specs.Course.{Course, shape, access_at}
use Rattle.schedule_model.specs.EachEvent.{each_passes}
use Rattle.schedule_model.specs.Histories.{is_active, starts, done_steps, net_steps, same_step}
use Rattle.schedule_model.specs.Recovery.{backward_entries}

-- e is of the last step of these entries
abbrev pub is_of_last : List Entry → Entry → Bool
is_of_last [] e = false
is_of_last (x ∷ []) e = same_step x e
is_of_last (x ∷ y ∷ xs) e = is_of_last (y ∷ xs) e

-- step b goes on from the net of process i along a whole path, and is greater than every step of it that ever took effect
abbrev pub goes_on : List Course → List Event → ℕ → ℕ → Bool
goes_on courses h i b = goes_on_to (shape courses i) (net_steps h i) b && list_all (λ d. nat_lt d b) (done_steps h i)

-- process i has done a whole path, or nothing of it is left
abbrev pub is_at_end : List Course → List Event → ℕ → Bool
is_at_end courses h i = is_end (shape courses i) (net_steps h i)

-- an entry: its process is active and its operation the plan's; a step goes on, and an undo is of the last entry of the
-- backward recovery
abbrev pub entry_keeps_order : List Course → List Event → Entry → Bool
entry_keeps_order courses h e =
    is_active h e.process && same_access (access_of e) (access_at courses e.process e.step)
    && (if e.undo then is_of_last (backward_entries courses h e.process) e else goes_on courses h e.process e.step)

-- a start takes the next number, and only an active process that is at an end may end
abbrev pub keeps_order : List Course → List Event → Event → Bool
keeps_order courses h (Start i) = nat_eq i (length (starts h) + 1)
keeps_order courses h (Act e) = entry_keeps_order courses h e
keeps_order courses h (End i) = is_active h i && is_at_end courses h i

-- a history is in own order where each of its events keeps that of its process
abbrev pub is_in_own_order : List Course → List Event → Bool
is_in_own_order courses h = each_passes (keeps_order courses) [] h
