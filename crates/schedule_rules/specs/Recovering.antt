-- Recovery, said of the entries that stand: the net of a history alone.
use Rattle.std.specs.Prelude.{◌<◌, ◌≤◌, ℕ, false, List, [], ◌∷◌, ◌++◌, length, drop, map, flat_map, slice_index_or}
use Rattle.process_tree.specs.declared.entry.Entry.{Entry}
use Rattle.process_tree.specs.declared.plan.Plan.{Plan}
use Rattle.process_tree.specs.Order.{Each}
use Rattle.process_tree.specs.Recovery.{forward}
use Rattle.process_tree.specs.Shape.{fixed_len, IsBranch}
use Rattle.schedule_model.specs.declared.event.Event.{Event}
use Rattle.schedule_model.specs.declared.event.Event.TheVariants.{Act, End}
use Rattle.schedule_model.specs.Course.{Course, course, courses_of, shape}
use Rattle.schedule_model.specs.Histories.{of_process, steps_of}

-- there is a plan for process i, and what stands of it goes along a whole path
abbrev pub StandsOnBranch : List Plan → List Entry → ℕ → Type 0
StandsOnBranch plans es i = (0 < i) × (i ≤ length plans) × IsBranch (shape (courses_of plans) i) (steps_of (of_process i es))

-- so it is for each of these processes
abbrev pub StandsOnBranches : List Plan → List Entry → List ℕ → Type 0
StandsOnBranches plans es processes = Each (StandsOnBranch plans es) processes

-- the backward recovery of a process of this course
abbrev pub backward_among : Course → List Entry → ℕ → List Entry
backward_among c es i = drop (fixed_len c.shape (steps_of (of_process i es))) (of_process i es)

-- those of these processes, one after another
abbrev pub all_backward : List Course → List Entry → List ℕ → List Entry
all_backward courses es processes = flat_map (λ i. backward_among (course courses i) es i) processes

-- step b of process i, of this course, taking effect
abbrev pub step_entry : Course → ℕ → ℕ → Entry
step_entry c i b = record { process = i; step = b; op = slice_index_or c.ops b 0; key = slice_index_or c.keys b 0; undo = false }

-- these steps of process i, of this course
abbrev pub owed_by : Course → ℕ → List ℕ → List Entry
owed_by c i bs = map (step_entry c i) bs

-- what a process of this course owes, and its end
abbrev pub closing_among : Course → List Entry → ℕ → List Event
closing_among c es i = map Act (owed_by c i (forward c.shape (steps_of (of_process i es)))) ++ End i ∷ []

-- that of these processes, one after another
abbrev pub closed_by : List Course → List Entry → List ℕ → List Event
closed_by courses es processes = flat_map (λ i. closing_among (course courses i) es i) processes
