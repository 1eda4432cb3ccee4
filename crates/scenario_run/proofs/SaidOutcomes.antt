-- What is said of a run by its outcome, and what the engine is then.
use Rattle.std.proofs.Common.{◌≡◌, ◌≢◌, ⊎_elim, Result, Ok, Err, IfOk, IfErr, subst, sym}
use Rattle.command_input.specs.declared.said.Said.{Said}
use Rattle.command_refusals.specs.declared.refusal.Refusal.{Refusal}
use Rattle.command_refusals.specs.declared.refusal.Refusal.TheVariants as refusals
use Rattle.worker_gate.specs.declared.alone.RunOutcome.{RunOutcome}
use Rattle.worker_gate.specs.declared.alone.RunOutcome.TheVariants.{DiskFault}
use Rattle.scenario_run.specs.Run.{IsSaidOf}

module _ (outcome : RunOutcome) (Says : Said → Type 0) where
  -- of one that went to its end
  pub said_ok : (T : Said → Type 0) (found : Result Said Refusal) → (outcome ≢ DiskFault → (s : Said) → Says s → T s) → IsSaidOf outcome Says found → IfOk found T
  said_ok T (Ok s) f is = f is.0 s is.1
  said_ok T (Err e) f is = tt

  -- of one that did not
  pub said_err : (T : Refusal → Type 0) (found : Result Said Refusal) → (outcome ≢ DiskFault → T refusals.NoMemory) → (outcome ≡ DiskFault → T refusals.DiskFault)
      → IsSaidOf outcome Says found → IfErr found T
  said_err T (Ok s) f g is = tt
  said_err T (Err r) f g is = ⊎_elim (λ m. subst T (sym m.0) (f m.1)) (λ d. subst T (sym d.0) (g d.1)) is
