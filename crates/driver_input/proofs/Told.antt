-- What is told of a scenario that was taken, or is too long.
use Rattle.std.proofs.Common.{◌≡◌, inl, ℕ, ◌+◌, ◌≤◌, ◌<◌, List, ◌++◌, length, Option, Some, None, IfSome, Result, Ok, Err, IfOk, IfErr, sym, ap, ◌∙◌, subst, arith, append_assoc, length-append}
use Rattle.std.specs.Io.KnownBytes.{Consumes}
use Rattle.std.proofs.KnownBytes.{Consumes-whole}
use Rattle.trace_verify.specs.Lines.{parts}
use Rattle.session_text.specs.Sessions.{scenario_of}
use Rattle.command_refusals.specs.declared.faults.Quantity.TheVariants as quantities
use Rattle.command_refusals.specs.declared.refusal.Refusal.{Refusal}
use Rattle.command_refusals.specs.declared.refusal.Refusal.TheVariants as refusals
use Rattle.command_input.specs.Inputs.{Input, most_input}
use Rattle.driver_input.specs.declared.parts.Part.TheVariants as part
use Rattle.driver_input.specs.declared.preamble.Preamble.{Preamble}
use Rattle.driver_input.specs.Parts.{IsPartTaken}
use Rattle.driver_input.specs.Preamble.{HasNoScenario, IsScenarioTaken}
use Rattle.driver_input.proofs.InFront.{IsInFront, gave_all, end_scenario}
use Rattle.driver_input.proofs.Texts.{on_text}
use Rattle.driver_input.proofs.Marks.{mark-among, mark-behind_long, scenario-at_least}

-- the scenario of this text has more bytes than may be
abbrev pub IsTooLong : List ℕ → Type 0
IsTooLong text = most_input < length (scenario_of text)

-- where the lines that were taken are too many
pub too_many : (before now : Option (List ℕ)) (scenario ready : List ℕ) (number : ℕ) → IsInFront before now scenario ready number → most_input < length scenario → IfSome before IsTooLong
too_many before now scenario ready number f many = on_text before now (scenario ++ ready) IsTooLong f.taken all
  where
    among : (rest : List ℕ) → length scenario ≤ length (scenario_of (scenario ++ rest))
    among rest = scenario-at_least (scenario ++ rest) (length scenario) (omega (arith, length-append scenario rest)) (λ m is. mark-among (length scenario) number (parts 10 rest) m (sym (f.same rest) ∙ is))

    all : (rest : List ℕ) → IsTooLong ((scenario ++ ready) ++ rest)
    all rest = subst IsTooLong (sym (append_assoc scenario ready rest)) (let less = among (ready ++ rest) in omega (arith, less, many))

-- where the next line is too long
pub too_long : (before now after : Option (List ℕ)) (scenario ready left longer : List ℕ) (number : ℕ) → IsInFront before now scenario ready number
    → IsPartTaken ready left scenario longer now after part.Long → IfSome before IsTooLong
too_long before now after scenario ready left longer number f p = on_text before after (scenario ++ (ready ++ p.given)) IsTooLong (gave_all before now after scenario ready p.given f.taken p.gave) all
  where
    behind : (more : List ℕ) → IsTooLong (scenario ++ (p.part_is.0 ++ more))
    behind more =
        let front = p.part_is.0 in
        let long = p.part_is.4 in
        let sizes : length (scenario ++ (front ++ more)) ≡ length scenario + (length front + length more) = omega (arith, length-append scenario (front ++ more), length-append front more) in
        let least =
        scenario-at_least (scenario ++ (front ++ more)) (length front) (omega (arith, sizes)) (λ m is. mark-behind_long (length scenario) number front more m p.part_is.3 (omega (arith, long)) (sym (f.same (front ++ more)) ∙ is)) in
        omega (arith, least, long)

    all : (rest : List ℕ) → IsTooLong ((scenario ++ (ready ++ p.given)) ++ rest)
    all rest =
        let front = p.part_is.0 in
        let bytes : (scenario ++ (ready ++ p.given)) ++ rest ≡ scenario ++ (front ++ (p.part_is.1 ++ rest)) =
        append_assoc scenario (ready ++ p.given) rest ∙ ap (λ bs. scenario ++ bs) (ap (λ bs. bs ++ rest) p.part_is.2 ∙ append_assoc front p.part_is.1 rest) in
        subst IsTooLong (sym bytes) (behind (p.part_is.1 ++ rest))

-- where all of the source is
pub end_too_long : (before now after : Option (List ℕ)) (scenario ready left longer : List ℕ) (number : ℕ) → IsInFront before now scenario ready number
    → IsPartTaken ready left scenario longer now after part.End → most_input < length longer → IfSome before IsTooLong
end_too_long before now after scenario ready left longer number f p long =
    Consumes-whole before after (scenario ++ (ready ++ p.given)) IsTooLong (gave_all before now after scenario ready p.given f.taken p.gave) p.last
    (subst (λ s. most_input < length s) (end_scenario before now after scenario ready left longer number f p) long)

-- what is handed out, if it is short enough
pub taken_within : (result : Result Preamble Refusal) (scenario : List ℕ) (first : ℕ) (before after : Option (List ℕ)) (ready : List ℕ)
    → IfOk result (λ p. (p.scenario.items ≡ scenario) × (p.first ≡ first) × (length scenario ≤ most_input))
    → (length scenario ≤ most_input → IsScenarioTaken before after scenario ready first) → IfOk result (λ p. IsScenarioTaken before after p.scenario.items ready p.first)
taken_within (Ok p) scenario first before after ready same taken =
    subst (λ s. IsScenarioTaken before after s ready p.first) (sym same.0) (subst (λ n. IsScenarioTaken before after scenario ready n) (sym same.1) (taken same.2))
taken_within (Err r) scenario first before after ready same taken = tt

-- and what is told otherwise
pub refused_within : (result : Result Preamble Refusal) (scenario : List ℕ) (before after : Input) → IfErr result (λ r. (r ≡ refusals.Limit quantities.Input 1048577) × (most_input < length scenario))
    → (most_input < length scenario → IfSome before.left IsTooLong) → IfErr result (λ r. HasNoScenario r before after)
refused_within (Ok p) scenario before after refused long = tt
refused_within (Err r) scenario before after refused long = inl (refused.0, long refused.1)
