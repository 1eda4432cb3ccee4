-- What was counted of a history and of its printed trace is its summary.
use Rattle.std.proofs.Common.{◌≡◌, ◌∙◌, ℕ, List, ap}
use Rattle.std.specs.Prelude.{count_by}
use Rattle.process_tree.specs.declared.entry.Entry.{Entry}
use Rattle.schedule_model.specs.declared.event.Event.{Event}
use Rattle.schedule_model.specs.declared.history.History.{History}
use Rattle.schedule_model.specs.declared.trace_step.TraceStep.{TraceStep}
use Rattle.schedule_model.specs.Course.{courses_of}
use Rattle.schedule_model.specs.PrintedTrace.{Trace, printed_trace}
use Rattle.bulk_run.specs.declared.summing.Summary.{Summary}
use Rattle.bulk_run.specs.Summary.{counted, is_cancel, is_end, is_forward, is_move, is_start, is_undo, summary_of}

abbrev numbers : ℕ → ℕ → ℕ → ℕ → ℕ → ℕ → Summary
numbers a b c d e f = record { processes = a; acts = b; undos = c; ends = d; moves = e; cancels = f }

pub counted_all : (h : History) (events : List Event) (steps : List TraceStep) (list : List Entry) (a b c d e f : ℕ)
    → a ≡ count_by is_start events → b ≡ count_by is_forward events → c ≡ count_by is_undo events → d ≡ count_by is_end events → e ≡ count_by is_move steps → f ≡ count_by is_cancel steps
    → events ≡ h.events → record { steps = steps; list = list } ≡ printed_trace (courses_of h.plans) h.events → numbers a b c d e f ≡ summary_of h
counted_all h events steps list a b c d e f pa pb pc pd pe pf same printed =
    ap (λ n. numbers n b c d e f) pa
    ∙ (ap (λ n. numbers (count_by is_start events) n c d e f) pb
    ∙ (ap (λ n. numbers (count_by is_start events) (count_by is_forward events) n d e f) pc
    ∙ (ap (λ n. numbers (count_by is_start events) (count_by is_forward events) (count_by is_undo events) n e f) pd
    ∙ (ap (λ n. numbers (count_by is_start events) (count_by is_forward events) (count_by is_undo events) (count_by is_end events) n f) pe
    ∙ (ap (λ n. numbers (count_by is_start events) (count_by is_forward events) (count_by is_undo events) (count_by is_end events) (count_by is_move steps) n) pf
    ∙ (ap (λ es. counted es steps) same ∙ ap (λ (t : Trace). counted h.events t.steps) printed))))))
