-- The printed trace: the steps that are printed for a history, and the list to which they lead.
use Rattle.std.specs.Prelude.{ℕ, zero, suc, ◌+◌, ◌-◌, Bool, not, ◌&&◌, List, [], ◌∷◌, ◌++◌, length, take, drop, nat_eq}
use Rattle.std.specs.Prelude.{if◌then◌else◌, Option, Some, None, unwrap_or}
use Rattle.std.specs.List.{list_any}
use Rattle.std.specs.Option.{option_map}
use Rattle.process_tree.specs.declared.entry.Entry.{Entry}
use Rattle.schedule_model.specs.declared.event.Event.{Event}
use Rattle.schedule_model.specs.declared.trace_step.TraceStep.{TraceStep}
use Rattle.schedule_model.specs.declared.trace_step.TraceStep.TheVariants.{Move, Cancel}
use Rattle.schedule_model.specs.Course.{Course}
use Rattle.schedule_model.specs.Histories.{acts, ends, takes_back}
use Rattle.schedule_model.specs.Completion.{completed}

-- steps, and the list to which they lead
pub record Trace : Type 0 where
  pub steps : List TraceStep
  pub list : List Entry

-- these steps first
abbrev pub after_steps : List TraceStep → Trace → Trace
after_steps ss r = record { steps = ss ++ r.steps; list = r.list }

-- the first place that passes, counted from 1
abbrev pub first_place : (Entry → Bool) → List Entry → Option ℕ
first_place test [] = None
first_place test (e ∷ es) = if test e then Some 1 else option_map (λ n. n + 1) (first_place test es)

-- the entry at a place, as a list
abbrev pub entry_at : ℕ → List Entry → List Entry
entry_at at es = take 1 (drop (at - 1) es)

-- the list without the entry at a place
abbrev pub without : ℕ → List Entry → List Entry
without at es = take (at - 1) es ++ drop at es

-- the least place of an undo
abbrev pub first_undo : List Entry → Option ℕ
first_undo es = first_place (λ e. e.undo) es

-- the place of the step that the entry at place u takes back
abbrev pub place_taken_back : ℕ → List Entry → ℕ
place_taken_back u es = unwrap_or (first_place (λ e. not e.undo && list_any (λ f. takes_back f e) (entry_at u es)) es) 0

-- the move from one place to another, if they differ
abbrev pub move_between : ℕ → ℕ → List TraceStep
move_between from to = if nat_eq from to then [] else Move from to ∷ []

-- the undo at place u and its step go: the step is moved up to it, and they are cancelled
abbrev pub cancel_one : (List Entry → Trace) → List Entry → Option ℕ → Trace
cancel_one rest es None = record { steps = []; list = es }
cancel_one rest es (Some u) =
    let f = place_taken_back u es in
    after_steps (move_between f (u - 1) ++ Cancel (u - 1) ∷ []) (rest (without f (without u es)))

-- first, as long as the list has an undo: the first one and its step go; n is as many undos as it may have
abbrev pub cancel_phase : ℕ → List Entry → Trace
cancel_phase zero es = record { steps = []; list = es }
cancel_phase (suc n) es = cancel_one (cancel_phase n) es (first_undo es)

-- the place of the first entry of the process that ends earliest among those that have one
abbrev pub first_to_end : List ℕ → List Entry → ℕ
first_to_end [] es = 1
first_to_end (i ∷ order) es = unwrap_or (first_place (λ e. nat_eq e.process i) es) (first_to_end order es)

-- then, for each place from t on: the first entry from there on whose process ends earliest comes to it; n is as many
-- entries as stand from there on
abbrev pub serial_phase : ℕ → List ℕ → ℕ → List Entry → Trace
serial_phase zero order t es = record { steps = []; list = es }
serial_phase (suc n) order t es =
    let k = first_to_end order es in
    let rest = serial_phase n order (t + 1) (without k es) in
    record { steps = move_between (t + k - 1) t ++ rest.steps; list = entry_at k es ++ rest.list }

-- the printed trace of a list of entries whose processes end in this order
abbrev pub trace_of : List ℕ → List Entry → Trace
trace_of order es =
    let first = cancel_phase (length es) es in
    after_steps first.steps (serial_phase (length first.list) order 1 first.list)

-- the printed trace of a history: that of the schedule of the completed one
abbrev pub printed_trace : List Course → List Event → Trace
printed_trace courses h = trace_of (ends (completed courses h)) (acts (completed courses h))
