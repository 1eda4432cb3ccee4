-- What a command writes, and how it ends.
use Rattle.std.specs.Prelude.{◌≡◌, ◌<◌, ◌⊎◌, ℕ, List, ◌++◌, length, take, codes, Option}
use Rattle.std.specs.Io.KnownBytes.{Appends}
use Rattle.process_flow.specs.Causes.{Rose}
use Rattle.process_flow.specs.declared.sink.Sink.{Ghosts as Sinks}
use Rattle.command_refusals.specs.Refusals.{refusal_text}
use Rattle.command_refusals.specs.declared.refusal.Refusal.{Refusal}
use Rattle.command_refusals.specs.declared.status.Status.{Status}
use Rattle.command_refusals.specs.declared.status.Status.TheVariants.{WriteFault}

-- a sink at some moment: what it has taken, where it tells, and its count of faults
pub record Output : Type 0 where
  pub taken : Option (List ℕ)
  pub faults : ℕ

abbrev pub output : {K : Type 0} → Sinks K → K → Output
output k sink = record { taken = k.taken sink; faults = k.faults sink }

-- the text went out, and the call ended at the status; or at that of a write fault, the sink's count rose, and a beginning of the
-- text went out
abbrev pub IsTold : Status → List ℕ → Output → Output → Status → Type 0
IsTold status text before after ended =
    ((ended ≡ status) × Appends before.taken after.taken text)
    ⊎ ((ended ≡ WriteFault) × Rose before.faults after.faults
    × ((sent : ℕ) × (sent < length text) × Appends before.taken after.taken (take sent text)))

-- the line of a refusal
abbrev pub refusal_line : Refusal → List ℕ
refusal_line r = refusal_text r ++ codes "\n"
