-- The scenario that stands in front of the lines of a driver.
use Rattle.std.specs.Prelude.{◌≡◌, ◌⊎◌, ◌≤◌, ◌<◌, ◌+◌, ℕ, List, [], length, Option, Some, IfSome}
use Rattle.std.specs.Io.KnownBytes.{Consumes, IsAtEnd}
use Rattle.process_flow.specs.Causes.{Rose}
use Rattle.trace_verify.specs.Lines.{parts}
use Rattle.command_refusals.specs.declared.faults.Quantity.TheVariants as quantities
use Rattle.command_refusals.specs.declared.refusal.Refusal.{Refusal}
use Rattle.command_refusals.specs.declared.refusal.Refusal.TheVariants.{Limit, ReadFault, NoMemory}
use Rattle.command_input.specs.Inputs.{Input, most_input}
use Rattle.session_text.specs.Sessions.{mark_of, scenario_of}

-- The source gave these bytes, and in front of their mark stands this scenario, as in the text of a session. Behind the mark stand
-- the bytes that are ready, of which the first line has this number; or the source is at its end, and there are none.
pub record IsScenarioTaken (before after : Option (List ℕ)) (scenario ready : List ℕ) (first : ℕ) : Type 0 where
  pub bytes : List ℕ
  pub taken : Consumes before after bytes
  pub scenario_is : scenario ≡ scenario_of bytes
  pub whole : IfSome before (λ text. scenario ≡ scenario_of text)
  pub within : length scenario ≤ most_input
  pub behind : ((n : ℕ) × (mark_of bytes ≡ Some (record { size = length scenario; number = n; lines = parts 10 ready }))
      × (first ≡ n + 1)) ⊎ ((ready ≡ []) × IsAtEnd after)

-- no scenario came: there was more of it than may be, or the source failed, or memory was wanting
abbrev pub HasNoScenario : Refusal → Input → Input → Type 0
HasNoScenario r before after =
    ((r ≡ Limit quantities.Input 1048577) × IfSome before.left (λ text. most_input < length (scenario_of text)))
    ⊎ ((r ≡ ReadFault) × Rose before.faults after.faults) ⊎ (r ≡ NoMemory)
