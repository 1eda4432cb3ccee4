-- What processes owe, said of the entries that stand.
use Rattle.std.specs.Prelude.{ℕ, List}
use Rattle.std.specs.List.{flat_map}
use Rattle.process_tree.specs.declared.entry.Entry.{Entry}
use Rattle.process_tree.specs.Recovery.{forward}
use Rattle.schedule_model.specs.Course.{Course, course, shape}
use Rattle.schedule_model.specs.Histories.{of_process, steps_of}
use Rattle.schedule_rules.specs.Recovering.{owed_by}

-- what process i owes, by the entries that stand
abbrev pub owed_among : List Course → List Entry → ℕ → List Entry
owed_among courses es i = owed_by (course courses i) i (forward (shape courses i) (steps_of (of_process i es)))

-- what these processes owe, one after another
abbrev pub all_owed_among : List Course → List Entry → List ℕ → List Entry
all_owed_among courses es processes = flat_map (owed_among courses es) processes
