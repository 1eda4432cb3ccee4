-- The serial phase, process by process.
use Rattle.std.proofs.Common.{◌≡◌, inl, inr, ℕ, ◌+◌, ◌-◌, ◌<◌, Bool, true, false, cond, eqb, List, [], ◌∷◌, ◌++◌, length, Option, Some, None, sym, refl, ap, ◌∙◌, arith, append-nil}
use Rattle.std.specs.Prelude.{unwrap_or}
use Rattle.std.specs.Option.{option_map}
use Rattle.std.proofs.lemmas.Bool.{eq-eqb}
use Rattle.process_tree.specs.declared.entry.Entry.{Entry}
use Rattle.schedule_model.specs.declared.trace_step.TraceStep.{TraceStep}
use Rattle.schedule_model.specs.declared.trace_step.TraceStep.TheVariants.{Move}
use Rattle.schedule_model.specs.PrintedTrace.{Trace, entry_at, first_place, first_to_end, serial_phase, without}
use Rattle.schedule_model.specs.Conflict.{no_conflict}
use Rattle.schedule_model.proofs.Members.{Among}
use Rattle.schedule_model.proofs.SerialPhase.{skip}
use Rattle.schedule_model.proofs.Places.{entry_at-split, without-split}
use Rattle.reduction_trace.specs.Phases.{behind, serial_phase_behind}

-- where no place is found, no entry passes
pub first_place-no : (test : Entry → Bool) (es : List Entry) → first_place test es ≡ None → (e : Entry) → Among e es → test e ≡ false
first_place-no test [] none e is = absurd is
first_place-no test (x ∷ es) none e is = by_test (test x) refl (first_place test es) (λ found f there. first_place-no test es found f there) none is
  where
    by_test : (t : Bool) → test x ≡ t → (o : Option ℕ) → (o ≡ None → (f : Entry) → Among f es → test f ≡ false)
        → cond t (Some 1) (option_map (λ n. n + 1) o) ≡ None → Among e (x ∷ es) → test e ≡ false
    by_test true passes o later none there = absurd (cc)
    by_test false fails (Some n) later none there = absurd (cc)
    by_test false fails None later none (inl here) = ap test (sym here) ∙ fails
    by_test false fails None later none (inr there) = later refl e there

-- the first entry of a process is the first to be moved while that process is the first to end
pub first-of_process : (i : ℕ) (order : List ℕ) (left : List Entry) (place : ℕ) → first_place (λ e. eqb e.process i) left ≡ Some place → first_to_end (i ∷ order) left ≡ place
first-of_process i order left place is = ap (λ o. unwrap_or o (first_to_end order left)) is

-- a process without an entry left is passed over
pub process-passed : (i : ℕ) (order : List ℕ) (steps : List TraceStep) (front left : List Entry) → first_place (λ e. eqb e.process i) left ≡ None
    → serial_phase_behind (i ∷ order) steps front left ≡ serial_phase_behind order steps front left
process-passed i order steps front left none =
    ap (behind steps front) (skip no_conflict (length left) i order (length front + 1) left (first_place-no (λ e. eqb e.process i) left none))

-- where no process is listed all stays where it is
in-place : (t : ℕ) (left : List Entry) → serial_phase (length left) [] t left ≡ record { steps = []; list = left }
in-place t [] = refl
in-place t (e ∷ left) =
    ap (λ c. record { steps = cond c [] (Move (t + 1 - 1) t ∷ []) ++ (serial_phase (length left) [] (t + 1) (without 1 (e ∷ left))).steps; list = entry_at 1 (e ∷ left) ++ (serial_phase (length left) [] (t + 1) (without 1 (e ∷ left))).list })
    (eq-eqb (t + 1 - 1) t (omega arith))
    ∙ (ap (λ es. record { steps = (serial_phase (length left) [] (t + 1) es).steps; list = entry_at 1 (e ∷ left) ++ (serial_phase (length left) [] (t + 1) es).list }) (without-split [] e left)
    ∙ (ap (λ fs. record { steps = (serial_phase (length left) [] (t + 1) left).steps; list = fs ++ (serial_phase (length left) [] (t + 1) left).list }) (entry_at-split [] e left)
    ∙ ap (λ (r : Trace). record { steps = r.steps; list = e ∷ r.list }) (in-place (t + 1) left)))

pub all-in_place : (steps : List TraceStep) (front left : List Entry) → serial_phase_behind [] steps front left ≡ record { steps = steps; list = front ++ left }
all-in_place steps front left =
    ap (behind steps front) (in-place (length front + 1) left) ∙ ap (λ ss. record { steps = ss; list = front ++ left }) (append-nil steps)

-- a list with less than one number is empty
pub nothing-left : (order : List ℕ) → length order < 1 → order ≡ []
nothing-left [] less = refl
nothing-left (i ∷ order) less = absurd (omega (arith, less))
