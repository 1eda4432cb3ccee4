-- Histories: who has started, who has ended, and which entries stand.
use Rattle.std.specs.Prelude.{ℕ, Bool, true, false, not, ◌&&◌, ◌||◌, List, [], ◌∷◌, filter, map, nat_eq, if◌then◌else◌}
use Rattle.std.specs.List.{list_any}
use Rattle.process_tree.specs.declared.entry.Entry.{Entry}
use Rattle.schedule_model.specs.declared.event.Event.{Event}
use Rattle.schedule_model.specs.declared.event.Event.TheVariants.{Start, Act, End}
use Rattle.schedule_model.specs.Course.{Course, op_of, key_of}

-- whether a number is listed
abbrev pub is_in : ℕ → List ℕ → Bool
is_in x xs = list_any (nat_eq x) xs

-- the schedule: what took effect, in joint order
abbrev pub acts : List Event → List Entry
acts [] = []
acts (Start i ∷ h) = acts h
acts (Act e ∷ h) = e ∷ acts h
acts (End i ∷ h) = acts h

-- who started, in order
abbrev pub starts : List Event → List ℕ
starts [] = []
starts (Start i ∷ h) = i ∷ starts h
starts (Act e ∷ h) = starts h
starts (End i ∷ h) = starts h

-- who ended, in order
abbrev pub ends : List Event → List ℕ
ends [] = []
ends (Start i ∷ h) = ends h
ends (Act e ∷ h) = ends h
ends (End i ∷ h) = i ∷ ends h

-- a process is active from its start to its end
abbrev pub is_active : List Event → ℕ → Bool
is_active h i = is_in i (starts h) && not (is_in i (ends h))

-- the active processes by number, which is the order of their starts
abbrev pub active : List Event → List ℕ
active h = filter (λ i. not (is_in i (ends h))) (starts h)

-- the numbers that stand after i
abbrev pub after_number : ℕ → List ℕ → List ℕ
after_number i [] = []
after_number i (k ∷ ks) = if nat_eq i k then ks else after_number i ks

-- process k is active, or ended after process i
abbrev pub outlives : List Event → ℕ → ℕ → Bool
outlives h k i = is_active h k || is_in k (after_number i (ends h))

-- step b of process i taking effect
abbrev pub doing : List Course → ℕ → ℕ → Entry
doing courses i b = record { process = i; step = b; op = op_of courses i b; key = key_of courses i b; undo = false }

-- its undo
abbrev pub undoing : Entry → Entry
undoing e = record { process = e.process; step = e.step; op = e.op; key = e.key; undo = true }

-- entries of one step of one process
abbrev pub same_step : Entry → Entry → Bool
same_step a b = nat_eq a.process b.process && nat_eq a.step b.step

-- f takes e back
abbrev pub takes_back : Entry → Entry → Bool
takes_back f e = f.undo && same_step e f

-- the net: the steps that took effect and whose undo doesn't follow, in joint order
abbrev pub net_acts : List Entry → List Entry
net_acts [] = []
net_acts (e ∷ es) =
    if e.undo || list_any (λ f. takes_back f e) es then net_acts es else e ∷ net_acts es

-- the net of a history
abbrev pub net : List Event → List Entry
net h = net_acts (acts h)

-- the entries of one process
abbrev pub of_process : ℕ → List Entry → List Entry
of_process i es = filter (λ e. nat_eq e.process i) es

-- the net of one process
abbrev pub net_of : List Event → ℕ → List Entry
net_of h i = of_process i (net h)

-- their step numbers
abbrev pub steps_of : List Entry → List ℕ
steps_of es = map (λ e. e.step) es

-- the steps of process i that are done and not undone
abbrev pub net_steps : List Event → ℕ → List ℕ
net_steps h i = steps_of (net_of h i)

-- the steps of process i that ever took effect, undone ones too
abbrev pub done_steps : List Event → ℕ → List ℕ
done_steps h i = steps_of (of_process i (filter (λ e. not e.undo) (acts h)))
