-- The cancel phase, undo by undo.
use Rattle.std.proofs.Common.{◌≡◌, ℕ, zero, suc, ◌+◌, ◌-◌, ◌<◌, ◌≤◌, Bool, true, false, cond, List, [], ◌∷◌, ◌++◌, length, Option, Some, None, sym, refl, ap, ◌∙◌, arith, append_assoc}
use Rattle.std.specs.Option.{option_map}
use Rattle.process_tree.specs.declared.entry.Entry.{Entry}
use Rattle.schedule_model.specs.declared.trace_step.TraceStep.{TraceStep}
use Rattle.schedule_model.specs.declared.trace_step.TraceStep.TheVariants.{Cancel}
use Rattle.schedule_model.specs.PrintedTrace.{after_steps, cancel_one, cancel_phase, first_place, first_undo, move_between, place_taken_back, without}
use Rattle.reduction_trace.specs.Phases.{behind, cancel_phase_behind}
use Rattle.reduction_trace.proofs.EntryAt.{length-without, length-without_most}

-- a place that is found is in the list
pub first_place-within : (test : Entry → Bool) (es : List Entry) (n : ℕ) → first_place test es ≡ Some n → (0 < n) × (n ≤ length es)
first_place-within test [] n is = absurd (cc)
first_place-within test (e ∷ es) n is = by_test (test e) (first_place test es) (λ m found. first_place-within test es m found) is
  where
    by_test : (t : Bool) (o : Option ℕ) → ((m : ℕ) → o ≡ Some m → (0 < m) × (m ≤ length es)) → cond t (Some 1) (option_map (λ m. m + 1) o) ≡ Some n
        → (0 < n) × (n ≤ length (e ∷ es))
    by_test true o within found = let one : 1 ≡ n = cc in (omega (arith, one), omega (arith, one))
    by_test false None within found = absurd (cc)
    by_test false (Some m) within found =
        let later : m + 1 ≡ n = cc in
        let less = within m refl in
        (omega (arith, later), omega (arith, later, less.1))

-- what a cancel leaves is shorter
pub cancel-shorter : (es : List Entry) (u f : ℕ) → first_undo es ≡ Some u → suc (length (without f (without u es))) ≤ length es
cancel-shorter es u f is =
    let within = first_place-within (λ e. e.undo) es u is in
    let one = length-without es u within.0 within.1 in
    let both = length-without_most (without u es) f in
    omega (arith, one, both)

-- a list has no more undos than entries, so that from there on the number doesn't matter
pub cancel_phase-same : (n m : ℕ) (es : List Entry) → length es ≤ n → length es ≤ m → cancel_phase n es ≡ cancel_phase m es
cancel_phase-same zero zero es few less = refl
cancel_phase-same zero (suc m) [] few less = refl
cancel_phase-same zero (suc m) (e ∷ es) few less = absurd (omega (arith, few))
cancel_phase-same (suc n) zero [] few less = refl
cancel_phase-same (suc n) zero (e ∷ es) few less = absurd (omega (arith, less))
cancel_phase-same (suc n) (suc m) es few less = by_first (λ rest few' less'. cancel_phase-same n m rest few' less') (first_undo es) refl
  where
    by_first : ((rest : List Entry) → length rest ≤ n → length rest ≤ m → cancel_phase n rest ≡ cancel_phase m rest)
        → (o : Option ℕ) → first_undo es ≡ o → cancel_one (cancel_phase n) es (first_undo es) ≡ cancel_one (cancel_phase m) es (first_undo es)
    by_first same None is = ap (cancel_one (cancel_phase n) es) is ∙ sym (ap (cancel_one (cancel_phase m) es) is)
    by_first same (Some u) is =
        let f = place_taken_back u es in
        let shorter = cancel-shorter es u f is in
        ap (cancel_one (cancel_phase n) es) is
        ∙ (ap (after_steps (move_between f (u - 1) ++ Cancel (u - 1) ∷ []))
        (same (without f (without u es)) (omega (arith, few, shorter)) (omega (arith, less, shorter)))
        ∙ sym (ap (cancel_one (cancel_phase m) es) is))

module _ (es : List Entry) (u : ℕ) (steps : List TraceStep) (is : first_undo es ≡ Some u) where
  abbrev f : ℕ
  f = place_taken_back u es

  abbrev rest : List Entry
  rest = without f (without u es)

  joined : (later : List TraceStep) → steps ++ ((move_between f (u - 1) ++ Cancel (u - 1) ∷ []) ++ later) ≡ ((steps ++ move_between f (u - 1)) ++ Cancel (u - 1) ∷ []) ++ later
  joined later =
      sym (append_assoc steps (move_between f (u - 1) ++ Cancel (u - 1) ∷ []) later)
      ∙ ap (λ ss. ss ++ later) (sym (append_assoc steps (move_between f (u - 1)) (Cancel (u - 1) ∷ [])))

  -- the steps of the first cancel, and then those of what it leaves
  first_goes : cancel_phase_behind steps es ≡ cancel_phase_behind ((steps ++ move_between f (u - 1)) ++ Cancel (u - 1) ∷ []) rest
  first_goes =
      let shorter = cancel-shorter es u f is in
      let n = length es - 1 in
      ap (λ m. behind steps [] (cancel_phase m es)) (let e : length es ≡ suc n = omega (arith, shorter) in e)
      ∙ (ap (λ o. behind steps [] (cancel_one (cancel_phase n) es o)) is
      ∙ (ap (λ t. behind steps [] (after_steps (move_between f (u - 1) ++ Cancel (u - 1) ∷ []) t)) (cancel_phase-same n (length rest) rest (omega (arith, shorter)) (omega arith))
      ∙ ap (λ ss. record { steps = ss; list = (cancel_phase (length rest) rest).list }) (joined (cancel_phase (length rest) rest).steps)))

-- the same, of what is there after the calls that do it
pub cancel-first : (es us rest : List Entry) (u f : ℕ) (steps moved ss : List TraceStep) → first_undo es ≡ Some u → f ≡ place_taken_back u es → us ≡ without u es
    → rest ≡ without f us → moved ≡ steps ++ move_between f (u - 1) → ss ≡ moved ++ Cancel (u - 1) ∷ [] → cancel_phase_behind steps es ≡ cancel_phase_behind ss rest
cancel-first es us rest u f steps moved ss is step without_undo left move cancel =
    rw (cancel, left, move, without_undo, step) (first_goes es u steps is)
