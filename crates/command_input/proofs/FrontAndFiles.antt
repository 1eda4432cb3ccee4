-- What a command refuses whose tests are those of its input, before a file is looked at, and then those of its files.
use Rattle.std.proofs.Common.{◌⊎◌, ℕ, Vec, inl, inr}
use Rattle.std.specs.declared.alloc.Global.{Global}
use Rattle.command_refusals.specs.declared.refusal.Refusal.{Refusal}
use Rattle.command_refusals.specs.Order.{Tests, AllHold, IsFirstRefusal, followed_by}
use Rattle.command_refusals.proofs.Orders.{all_held, all_hold_leaving, in_parts, refused_before, refused_behind, refused_leaving, what_is_left}
use Rattle.command_input.specs.declared.scenario.NoPlans.{NoPlans}
use Rattle.command_input.specs.declared.scenario.NoPlans.TheVariants.{Refused, IllFormed}
use Rattle.command_input.specs.FilesLeft.{Files, AreUntouched, before_files}
use Rattle.command_input.specs.Scenarios.{all_refusing}
use Rattle.command_input.proofs.Refusing.{no_line, refused_alone, refused_among}

module _ {V W : Type 0} (front : Tests NoPlans V) (behind : V → Tests Refusal W) (files files_after : Files) where
  abbrev Left : Type 0
  Left = AreUntouched files files_after

  abbrev pub All : Tests NoPlans W
  All = followed_by (before_files files files_after front) (λ v. all_refusing (behind v))

  -- what is refused of the input is refused first, where the files are left,
  pub refused_early : (none : NoPlans) → IsFirstRefusal front none → AreUntouched files files_after → IsFirstRefusal All none
  refused_early none why left = refused_before (before_files files files_after front) (λ v. all_refusing (behind v)) none (refused_leaving Left front none why left)

  -- then what is refused of the files,
  pub refused_late : (v : V) (r : Refusal) → AllHold front v → IsFirstRefusal (behind v) r → IsFirstRefusal All (Refused r)
  refused_late v r held why =
      refused_behind (before_files files files_after front) (λ v. all_refusing (behind v)) (Refused r) v (all_hold_leaving Left front v held) (refused_among (behind v) r why)

  -- and nothing else: a refusal is of one or the other,
  abbrev pub IsLate : Refusal → Type 0
  IsLate r = (v : V) × AllHold front v × IsFirstRefusal (behind v) r

  pub early_or_late : (r : Refusal) → IsFirstRefusal All (Refused r) → (IsFirstRefusal front (Refused r) × AreUntouched files files_after) ⊎ IsLate r
  early_or_late r why = by (in_parts (before_files files files_after front) (λ v. all_refusing (behind v)) (Refused r) why)
    where
      by : IsFirstRefusal (before_files files files_after front) (Refused r) ⊎ ((v : V) × AllHold (before_files files files_after front) v × IsFirstRefusal (all_refusing (behind v)) (Refused r))
          → (IsFirstRefusal front (Refused r) × AreUntouched files files_after) ⊎ IsLate r
      by (inl early) = inl (what_is_left Left front (Refused r) early)
      by (inr (v, held, late)) = inr (v, all_held Left front v held, refused_alone (behind v) r late)

  -- and a verdict line comes of the input.
  pub early_line : (line : Vec ℕ Global) → IsFirstRefusal All (IllFormed line) → IsFirstRefusal front (IllFormed line) × AreUntouched files files_after
  early_line line why = by (in_parts (before_files files files_after front) (λ v. all_refusing (behind v)) (IllFormed line) why)
    where
      by : IsFirstRefusal (before_files files files_after front) (IllFormed line) ⊎ ((v : V) × AllHold (before_files files files_after front) v × IsFirstRefusal (all_refusing (behind v)) (IllFormed line))
          → IsFirstRefusal front (IllFormed line) × AreUntouched files files_after
      by (inl early) = what_is_left Left front (IllFormed line) early
      by (inr (v, held, late)) = absurd (no_line (behind v) line late)
