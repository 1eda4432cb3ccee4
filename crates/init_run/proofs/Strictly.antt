-- What is held against a scenario, part by part.
use Rattle.std.proofs.Common.{◌≡◌, ℕ, Bool, true, List, Ok, inl, inr, refl, sym, subst}
use Rattle.process_tree.specs.declared.plan.Plan.{Plan}
use Rattle.process_text.specs.declared.error.TextError.TheVariants as texts
use Rattle.commute_table.specs.declared.catalog.Catalog.{Catalog}
use Rattle.commute_table.specs.declared.scenario.Scenario.{Scenario}
use Rattle.commute_table.specs.Document.{Says}
use Rattle.command_refusals.specs.declared.refusal.Refusal.{Refusal}
use Rattle.command_refusals.specs.declared.refusal.Refusal.TheVariants as refusals
use Rattle.command_input.specs.declared.scenario.NoPlans.TheVariants as none
use Rattle.command_input.specs.Inputs.{Input, IsWholeText}
use Rattle.command_input.specs.Scenarios.{AreGoodPlans, AreNoGoodPlans}
use Rattle.command_input.proofs.ScenarioParts.{refuses_plans}
use Rattle.init_run.specs.Strict.{IsHeld, IsNotRead, IsUnpassed, IsWarnedOf}
use Rattle.init_run.specs.declared.strict.Unmade.{Unmade}
use Rattle.init_run.specs.declared.strict.Unmade.TheVariants.{Refused, Held}

-- its plans are good, and warned of
pub warned : (strict : Bool) (c : Catalog) (text : List ℕ) (plans : List Plan) (u : Unmade) → strict ≡ true → AreGoodPlans c.ops text plans → IsWarnedOf c plans u → IsHeld strict c text u
warned strict c text plans (Refused r) is good memory =
    (is, subst (λ (x : Refusal). AreNoGoodPlans c.ops text (none.Refused x)) (sym memory) (refuses_plans c.ops text refusals.NoMemory (inl (texts.NoMemory, refl, inl refl))))
warned strict c text plans (Held said) is good (some, line) = (is, inl (plans, good, some, line))

-- its input came, and doesn't pass
pub unpassed : (values strict : Bool) (before after : Input) (bytes : List ℕ) (s : Scenario) (u : Unmade) → IsWholeText before after bytes → Says bytes (Ok s) → IsUnpassed values strict s.catalog s.processes u
    → IsNotRead values strict before after u
unpassed values strict before after bytes s (Refused r) whole says (inl why) = inr (bytes, whole, inr (s, says, inl why))
unpassed values strict before after bytes s (Refused r) whole says (inr (sound, is, none)) = inr (bytes, whole, inr (s, says, inr (tt, sound, (is, none))))
unpassed values strict before after bytes s (Held said) whole says (sound, held) = (bytes, whole, (s, says, sound, held))
