-- Step by step, a process is sound or has a first flaw.
use Rattle.std.proofs.Common.{◌≡◌, ◌⊎◌, inl, inr, ⊎_elim, ℕ, zero, suc, Bool, true, false, Option, Some, None, refl, sym, subst, ◌∙◌, length, arith}
use Rattle.std.proofs.lemmas.Bool.{cases_lt}
use Rattle.process_tree.specs.Shape.{Shape, goes_on_to, branch_to}
use Rattle.process_tree.specs.Termination.{IsWellFormed, Fault, stuck_at, unreachable_at, IsFirstFault, outcomes_to}
use Rattle.well_formed.specs.declared.flaw.Flaw.{Flaw}
use Rattle.well_formed.specs.declared.flaw.Flaw.TheVariants.{CutOff, DeadEnd}
use Rattle.well_formed.specs.declared.judge.Flawed.{Flawed}
use Rattle.well_formed.specs.Flaws.{IsOrderly, IsOn, IsSound, IsSoundBelow, IsFirstFlaw, flaw_at}
use Rattle.well_formed.specs.Verdicts.{EachTreeHasAVerdict}
use Rattle.well_formed.proofs.Standing.{on_within}
use Rattle.well_formed.proofs.Firsts.{all_sound}
use Rattle.well_formed.proofs.Told.{orderly, told_unreachable, told_stuck}

one_further : (t : Shape) (n : ℕ) → IsSoundBelow t n → (IsOn t n → IsSound t n) → IsSoundBelow t (suc n)
one_further t n below here y lt on = ⊎_elim (λ less. below y less on) (λ most. let same : n ≡ y = omega arith in subst (IsSound t) same (here (subst (IsOn t) (sym same) on))) (cases_lt y n)

by_flaw : (t : Shape) (n : ℕ) (flaw : Option Flaw) → flaw_at t n ≡ flaw → IsOn t n → IsSoundBelow t n → IsSoundBelow t (suc n) ⊎ ((f : Flawed) × IsFirstFlaw t f)
by_flaw t n None is on below = inl (one_further t n below (λ on'. is))
by_flaw t n (Some flaw) is on below = inr (record { step = n; flaw = flaw }, (on, is, below))

by_place : (t : Shape) (n : ℕ) (on : Bool) → goes_on_to t (branch_to t n) n ≡ on → IsSoundBelow t n → IsSoundBelow t (suc n) ⊎ ((f : Flawed) × IsFirstFlaw t f)
by_place t n true is below = by_flaw t n (flaw_at t n) refl is below
by_place t n false is below = inl (one_further t n below (λ on. let never : true ≡ false = sym on ∙ is in absurd (cc)))

-- the steps below n are sound, or there is a first flaw
sound_or_flawed : (t : Shape) (n : ℕ) → IsSoundBelow t n ⊎ ((f : Flawed) × IsFirstFlaw t f)
sound_or_flawed t zero = inl (λ y lt on. absurd (omega arith))
sound_or_flawed t (suc n) = ⊎_elim (λ below. by_place t n (goes_on_to t (branch_to t n) n) refl below) (λ found. inr found) (sound_or_flawed t n)

fault_of : (t : Shape) (f : Flawed) (flaw : Flaw) → IsOrderly t → IsFirstFlaw t f → f.flaw ≡ flaw → (fault : Fault) × IsFirstFault t fault
fault_of t f CutOff orderly_t first is = (unreachable_at f.step, told_unreachable t f orderly_t first is)
fault_of t f DeadEnd orderly_t first is = (stuck_at f.step (outcomes_to t f.step), told_stuck t f (outcomes_to t f.step) orderly_t first is refl)

judged : (t : Shape) → IsOrderly t → IsWellFormed t ⊎ ((fault : Fault) × IsFirstFault t fault)
judged t orderly_t =
    ⊎_elim
    (λ below. inl (all_sound t orderly_t (λ b on. below b (on_within t (branch_to t b) b orderly_t on) on)))
    (λ found. inr (fault_of t found.0 found.0.flaw orderly_t found.1 refl))
    (sound_or_flawed t (length t.kinds))

pub each_tree_has_a_verdict : EachTreeHasAVerdict
each_tree_has_a_verdict t tree = judged t (subst IsOrderly (sym tree.is) (orderly tree.root tree.good))
