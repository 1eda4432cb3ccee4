-- How a reply is told.
use Rattle.std.specs.Prelude.{◌≡◌, ◌⊎◌, true}
pub use Rattle.command_input.specs.Outputs.{Output, output, refusal_line, IsTold}
use Rattle.command_refusals.specs.declared.status.Status.{Status}
use Rattle.command_refusals.specs.declared.refusal.Refusal.{Refusal}
use Rattle.command_refusals.specs.declared.refusal.Refusal.TheVariants.{NoMemory}
use Rattle.command_refusals.specs.Refusals.{refusal_status, needs_memory}

-- a refusal was told
abbrev pub IsLineTold : Refusal → Output → Output → Status → Type 0
IsLineTold r before after ended = IsTold (refusal_status r) (refusal_line r) before after ended

-- or its line needs memory, and it was told that there is none
abbrev pub IsRefusalTold : Refusal → Output → Output → Status → Type 0
IsRefusalTold r before after ended =
    IsLineTold r before after ended ⊎ ((needs_memory r ≡ true) × IsLineTold NoMemory before after ended)
