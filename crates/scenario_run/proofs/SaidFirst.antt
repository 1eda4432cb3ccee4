-- What is said of what a command refuses first: it is refused of its input, or of its files.
use Rattle.std.proofs.Common.{◌⊎◌, Result, Ok, Err, inl, inr}
use Rattle.command_refusals.specs.declared.refusal.Refusal.{Refusal}
use Rattle.command_refusals.specs.Order.{Tests, AllHold, IsFirstRefusal}
use Rattle.command_input.specs.declared.said.Said.{Said}
use Rattle.command_input.specs.declared.scenario.NoPlans.{NoPlans}
use Rattle.command_input.specs.declared.scenario.NoPlans.TheVariants.{Refused, IllFormed}
use Rattle.command_input.specs.FilesLeft.{Files, AreUntouched}
use Rattle.command_input.proofs.FrontAndFiles as front_and_files
use Rattle.scenario_run.specs.Scenario.{IsSaidOfNone}

-- it is refused, for this reason
abbrev pub IsErrFor : (Refusal → Type 0) → Result Said Refusal → Type 0
IsErrFor IsWhy (Ok said) = ⊥
IsErrFor IsWhy (Err r) = IsWhy r

module _ {V W : Type 0} (front : Tests NoPlans V) (behind : V → Tests Refusal W) (files files_after : Files) where
  abbrev pub IsSaidFirst : Result Said Refusal → Type 0
  IsSaidFirst found = IsSaidOfNone (IsFirstRefusal (front_and_files.All front behind files files_after)) found

  -- this is said of the input, and the files are left
  abbrev pub IsSaidEarly : Result Said Refusal → Type 0
  IsSaidEarly found = IsSaidOfNone (IsFirstRefusal front) found × AreUntouched files files_after

  -- the tests of the input hold, and this is refused of the files
  abbrev pub IsSaidLate : Result Said Refusal → Type 0
  IsSaidLate found = (v : V) × AllHold front v × IsErrFor (IsFirstRefusal (behind v)) found

  pub early_or_late : (found : Result Said Refusal) → IsSaidFirst found → IsSaidEarly found ⊎ IsSaidLate found
  early_or_late (Ok said) (ill, why) = let early = front_and_files.early_line front behind files files_after said.text why in inl ((ill, early.0), early.1)
  early_or_late (Err r) why = by (front_and_files.early_or_late front behind files files_after r why)
    where
      by : (IsFirstRefusal front (Refused r) × AreUntouched files files_after) ⊎ front_and_files.IsLate front behind files files_after r → IsSaidEarly (Err r) ⊎ IsSaidLate (Err r)
      by (inl early) = inl early
      by (inr late) = inr late

  pub said_early : (found : Result Said Refusal) → IsSaidEarly found → IsSaidFirst found
  said_early (Ok said) ((ill, why), left) = (ill, front_and_files.refused_early front behind files files_after (IllFormed said.text) why left)
  said_early (Err r) (why, left) = front_and_files.refused_early front behind files files_after (Refused r) why left

  pub said_late : (v : V) (found : Result Said Refusal) → AllHold front v → IsErrFor (IsFirstRefusal (behind v)) found → IsSaidFirst found
  said_late v (Ok said) held none = absurd none
  said_late v (Err r) held why = front_and_files.refused_late front behind files files_after v r held why
