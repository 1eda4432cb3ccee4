-- At which statuses a call ends that refused, or went on.
use Rattle.std.proofs.Common.{◌≡◌, ◌⊎◌, ◌∙◌, true, false, inl, inr, ap, subst}
use Rattle.process_flow.specs.Causes.{Rose}
use Rattle.command_refusals.specs.declared.refusal.Refusal.{Refusal}
use Rattle.command_refusals.specs.declared.refusal.Refusal.TheVariants as refusals
use Rattle.command_refusals.specs.declared.status.Status.{Status}
use Rattle.command_refusals.specs.declared.status.Status.TheVariants.{WriteFault, DiskFault, NoMemory}
use Rattle.process_top.specs.Told.{IsRefusalTold, IsTold, Output}
use Rattle.process_top.specs.Worlds.{World}
use Rattle.headline.specs.Headline.{IsRackFault, is_refused_beforehand}

-- a refusal for the rack or for memory was told with its own status, or the sink failed
abbrev pub IsCut : Status → Type 0
IsCut status = (status ≡ WriteFault) ⊎ (status ≡ DiskFault) ⊎ (status ≡ NoMemory)

fault_told : (before after : Output) (status : Status) → IsRefusalTold refusals.DiskFault before after status → (status ≡ WriteFault) ⊎ (status ≡ DiskFault)
fault_told before after status (inl (inl out)) = inr out.0
fault_told before after status (inl (inr failed)) = inl failed.0
fault_told before after status (inr needs) = absurd (let none = needs.0 in cc)

memory_told : (before after : Output) (status : Status) → IsRefusalTold refusals.NoMemory before after status → (status ≡ WriteFault) ⊎ (status ≡ NoMemory)
memory_told before after status (inl (inl out)) = inr out.0
memory_told before after status (inl (inr failed)) = inl failed.0
memory_told before after status (inr needs) = absurd (let none = needs.0 in cc)

pub told_cut : (r : Refusal) (before after : Output) (status : Status) → (r ≡ refusals.DiskFault) ⊎ (r ≡ refusals.NoMemory) → IsRefusalTold r before after status → IsCut status
told_cut r before after status (inl is) told = by (fault_told before after status (subst (λ x. IsRefusalTold x before after status) is told))
  where
    by : (status ≡ WriteFault) ⊎ (status ≡ DiskFault) → IsCut status
    by (inl failed) = inl failed
    by (inr disk) = inr (inl disk)
told_cut r before after status (inr is) told = by (memory_told before after status (subst (λ x. IsRefusalTold x before after status) is told))
  where
    by : (status ≡ WriteFault) ⊎ (status ≡ NoMemory) → IsCut status
    by (inl failed) = inl failed
    by (inr memory) = inr (inr memory)

-- That is no status of what is refused beforehand,
pub cut_late : (s : Status) → IsCut s → is_refused_beforehand s ≡ true → ⊥
cut_late s (inl write) early = absurd (let t : is_refused_beforehand s ≡ false = ap is_refused_beforehand write in cc)
cut_late s (inr (inl disk)) early = absurd (let t : is_refused_beforehand s ≡ false = ap is_refused_beforehand disk in cc)
cut_late s (inr (inr memory)) early = absurd (let t : is_refused_beforehand s ≡ false = ap is_refused_beforehand memory in cc)

-- nor is that of a report, however it was told.
pub said_late : (s at : Status) (before after : Output) (text : _) → IsTold s text before after at → is_refused_beforehand s ≡ false → is_refused_beforehand at ≡ true → ⊥
said_late s at before after text (inl out) late early = absurd (let t : is_refused_beforehand at ≡ false = ap is_refused_beforehand out.0 ∙ late in cc)
said_late s at before after text (inr failed) late early = absurd (let t : is_refused_beforehand at ≡ false = ap is_refused_beforehand failed.0 in cc)

-- Nor is another status than the one that was told.
pub failed_late : (s at : Status) (before after : Output) (text : _) → IsTold s text before after at → is_refused_beforehand at ≡ true → ¬ at ≡ s → ⊥
failed_late s at before after text (inl out) early other = other out.0
failed_late s at before after text (inr failed) early other = absurd (let t : is_refused_beforehand at ≡ false = ap is_refused_beforehand failed.0 in cc)

-- Where the rack failed a call, that is told, or the sink failed too.
pub refused_fault : {S K R : Type 0} (before after : World S K R) (r : Refusal) (status : Status) → r ≡ refusals.DiskFault → Rose before.files.faults after.files.faults
    → IsRefusalTold r before.output after.output status → IsRackFault status before after
refused_fault before after r status is rose told = by (fault_told before.output after.output status (subst (λ x. IsRefusalTold x before.output after.output status) is told))
  where
    by : (status ≡ WriteFault) ⊎ (status ≡ DiskFault) → IsRackFault status before after
    by (inl failed) = inr (failed, rose)
    by (inr disk) = inl disk

pub said_fault : {S K R : Type 0} (before after : World S K R) (s at : Status) (first : Output) (text : _) → s ≡ DiskFault → Rose before.files.faults after.files.faults
    → IsTold s text first after.output at → IsRackFault at before after
said_fault before after s at first text is rose (inl out) = inl (out.0 ∙ is)
said_fault before after s at first text is rose (inr failed) = inr (failed.0, rose)
