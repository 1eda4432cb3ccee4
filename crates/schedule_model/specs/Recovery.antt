-- Recovery of a process in a history: what it would have to undo, and what it still owes.
use Rattle.std.specs.Prelude.{ℕ, List, [], ◌∷◌, ◌++◌, drop, map}
use Rattle.process_tree.specs.declared.entry.Entry.{Entry}
use Rattle.process_tree.specs.Shape.{fixed_len}
use Rattle.process_tree.specs.Recovery.{forward}
use Rattle.schedule_model.specs.declared.event.Event.{Event}
use Rattle.schedule_model.specs.Course.{Course, shape}
use Rattle.schedule_model.specs.Histories.{doing, net_of, net_steps}

-- backward recovery: the net of process i after its last commit point
abbrev pub backward_entries : List Course → List Event → ℕ → List Entry
backward_entries courses h i = drop (fixed_len (shape courses i) (net_steps h i)) (net_of h i)

-- forward recovery: the steps that process i owes from its last commit point on, through last alternatives
abbrev pub owed_steps : List Course → List Event → ℕ → List ℕ
owed_steps courses h i = forward (shape courses i) (net_steps h i)

-- these as entries
abbrev pub owed : List Course → List Event → ℕ → List Entry
owed courses h i = map (doing courses i) (owed_steps courses h i)

-- what process i would owe if its step b took effect now
abbrev pub owed_after : List Course → List Event → ℕ → ℕ → List Entry
owed_after courses h i b = map (doing courses i) (forward (shape courses i) (net_steps h i ++ b ∷ []))
