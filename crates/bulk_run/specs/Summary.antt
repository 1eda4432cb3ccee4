-- What a run comes to, in numbers.
use Rattle.std.specs.Prelude.{ℕ, Bool, true, false, not, List, ◌++◌, count_by, codes, decimal}
use Rattle.schedule_model.specs.declared.event.Event.{Event}
use Rattle.schedule_model.specs.declared.event.Event.TheVariants.{Start, Act, End}
use Rattle.schedule_model.specs.declared.history.History.{History}
use Rattle.schedule_model.specs.declared.trace_step.TraceStep.{TraceStep}
use Rattle.schedule_model.specs.declared.trace_step.TraceStep.TheVariants.{Move, Cancel}
use Rattle.schedule_model.specs.Course.{courses_of}
use Rattle.schedule_model.specs.PrintedTrace.{printed_trace}
use Rattle.bulk_run.specs.declared.summing.Summary.{Summary}

-- a process started
abbrev pub is_start : Event → Bool
is_start (Start i) = true
is_start (Act e) = false
is_start (End i) = false

-- a step took effect
abbrev pub is_forward : Event → Bool
is_forward (Start i) = false
is_forward (Act e) = not e.undo
is_forward (End i) = false

-- an undo did
abbrev pub is_undo : Event → Bool
is_undo (Start i) = false
is_undo (Act e) = e.undo
is_undo (End i) = false

-- a process ended
abbrev pub is_end : Event → Bool
is_end (Start i) = false
is_end (Act e) = false
is_end (End i) = true

-- an entry is carried from one place to another
abbrev pub is_move : TraceStep → Bool
is_move (Move from to) = true
is_move (Cancel at) = false

-- a step is removed with its undo
abbrev pub is_cancel : TraceStep → Bool
is_cancel (Move from to) = false
is_cancel (Cancel at) = true

-- what is counted of events, and of the steps of a trace
abbrev pub counted : List Event → List TraceStep → Summary
counted events steps = record {
  processes = count_by is_start events;
  acts = count_by is_forward events;
  undos = count_by is_undo events;
  ends = count_by is_end events;
  moves = count_by is_move steps;
  cancels = count_by is_cancel steps;
}

-- the summary of a history: of its events, and of the steps of its printed trace
abbrev pub summary_of : History → Summary
summary_of h = counted h.events (printed_trace (courses_of h.plans) h.events).steps

-- words, and a number behind them
abbrev pub number_text : List ℕ → ℕ → List ℕ
number_text words n = words ++ decimal n

-- the numbers of events
unfoldable pub event_numbers : Summary → List ℕ
event_numbers s =
    number_text (codes "processes ") s.processes ++ number_text (codes " acts ") s.acts ++ number_text (codes " undos ") s.undos
    ++ number_text (codes " ends ") s.ends

-- the numbers of a trace, and the end of the line
unfoldable pub trace_numbers : Summary → List ℕ
trace_numbers s = number_text (codes " moves ") s.moves ++ number_text (codes " cancels ") s.cancels ++ codes "\n"

-- its line
abbrev pub summary_line : Summary → List ℕ
summary_line s = event_numbers s ++ trace_numbers s
