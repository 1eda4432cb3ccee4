-- Completion: how a history that is cut off is brought to its end.
use Rattle.std.specs.Prelude.{ℕ, Bool, ◌&&◌, List, [], ◌∷◌, ◌++◌, filter, map, flat_map, reverse}
use Rattle.std.specs.List.{list_any}
use Rattle.process_tree.specs.declared.entry.Entry.{Entry}
use Rattle.schedule_model.specs.declared.event.Event.{Event}
use Rattle.schedule_model.specs.declared.event.Event.TheVariants.{Act, End}
use Rattle.schedule_model.specs.Course.{Course}
use Rattle.schedule_model.specs.Histories.{active, is_active, net, same_step, undoing}
use Rattle.schedule_model.specs.Recovery.{backward_entries, owed}

-- e is of the backward recovery of an active process
abbrev pub is_to_undo : List Course → List Event → Entry → Bool
is_to_undo courses h e = is_active h e.process && list_any (same_step e) (backward_entries courses h e.process)

-- the backward recoveries of all active processes, in joint order
abbrev pub all_backward_entries : List Course → List Event → List Entry
all_backward_entries courses h = filter (is_to_undo courses h) (net h)

-- what process i owes, and its end
abbrev pub closing : List Course → List Event → ℕ → List Event
closing courses h i = map Act (owed courses h i) ++ End i ∷ []

-- the events that completion adds: the undo of every backward recovery, the last entry first, and then for each active
-- process by number what it owes and its end
abbrev pub completion : List Course → List Event → List Event
completion courses h =
    map (λ e. Act (undoing e)) (reverse (all_backward_entries courses h)) ++ flat_map (closing courses h) (active h)

-- a history with its completion
abbrev pub completed : List Course → List Event → List Event
completed courses h = h ++ completion courses h
