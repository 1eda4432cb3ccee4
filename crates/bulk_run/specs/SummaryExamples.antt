-- Worked summaries, each of which holds by computing.
use Rattle.std.specs.Prelude.{◌≡◌, refl, ℕ, Bool, true, false, [], ◌∷◌, codes}
use Rattle.std.specs.Fmt.{digits}
use Rattle.process_tree.specs.declared.entry.Entry.{Entry}
use Rattle.schedule_model.specs.declared.event.Event.TheVariants.{Start, Act, End}
use Rattle.schedule_model.specs.declared.trace_step.TraceStep.TheVariants.{Move, Cancel}
use Rattle.bulk_run.specs.Summary.{counted, event_numbers, summary_line, trace_numbers}

-- a step of a process, or its undo
abbrev entry : ℕ → ℕ → Bool → Entry
entry process step undo = record { process = process; step = step; op = 0; key = 1; undo = undo }

-- an undo is no act, and a move no cancel
pub of_two : counted (Start 1 ∷ Start 2 ∷ Act (entry 1 0 false) ∷ Act (entry 2 0 false) ∷ Act (entry 1 0 true) ∷ End 1 ∷ [])
    (Move 1 2 ∷ Cancel 2 ∷ [])
    ≡ record { processes = 2; acts = 2; undos = 1; ends = 1; moves = 1; cancels = 1 }
of_two = refl

pub a_line : summary_line (record { processes = 1; acts = 5; undos = 0; ends = 1; moves = 0; cancels = 0 })
    ≡ codes "processes 1 acts 5 undos 0 ends 1 moves 0 cancels 0\n"
unfolding digits event_numbers trace_numbers
a_line = refl
