-- What became of a step.
use Rattle.std.specs.Prelude.{ℕ, ◌+◌, List, [], ◌∷◌, Bool, ◌&&◌, nat_eq, if◌then◌else◌, Option, Some, None}
use Rattle.process_tree.specs.Making.{same_text}
use Rattle.process_tree.specs.declared.entry.Entry.{Entry}
use Rattle.process_tree.specs.declared.plan.Plan.{Plan}
use Rattle.schedule_model.specs.declared.event.Event.{Event}
use Rattle.schedule_model.specs.declared.event.Event.TheVariants.{Start, Act, End}
use Rattle.process_report.specs.Names.{names_in}
use Rattle.driver_requests.specs.declared.request.Happening.{Happening}
use Rattle.driver_requests.specs.declared.request.Happening.TheVariants.{Done, Undone, NotDone}

-- an entry is of step b of process i
abbrev pub is_of : ℕ → ℕ → Entry → Bool
is_of i b e = nat_eq e.process i && nat_eq e.step b

-- what an event at this place makes of the step
abbrev pub made_by : ℕ → ℕ → ℕ → Event → Happening
made_by i b place (Start k) = NotDone
made_by i b place (End k) = NotDone
made_by i b place (Act e) = if is_of i b e then (if e.undo then Undone place else Done place) else NotDone

-- what comes later decides
abbrev pub unless_later : Happening → Happening → Happening
unless_later earlier NotDone = earlier
unless_later earlier (Done place) = Done place
unless_later earlier (Undone place) = Undone place

-- what these events make of it, of which the first stands at this place
abbrev pub happening_from : ℕ → ℕ → ℕ → List Event → Happening
happening_from i b place [] = NotDone
happening_from i b place (e ∷ es) = unless_later (made_by i b place e) (happening_from i b (place + 1) es)

-- what became of step b of process i: events count from 1
abbrev pub happening : ℕ → ℕ → List Event → Happening
happening i b events = happening_from i b 1 events

-- which of these names is this one, counted from n
abbrev pub place_from : ℕ → List ℕ → List (List ℕ) → Option ℕ
place_from n name [] = None
place_from n name (x ∷ xs) = if same_text x name then Some n else place_from (n + 1) name xs

-- the step of this name
abbrev pub step_named : List ℕ → Plan → Option ℕ
step_named name p = place_from 0 name (names_in p)
