-- What the tests of a scenario refuse and hand on, said part by part.
use Rattle.std.proofs.Common.{◌⊎◌, ℕ, List, Vec, Some, Ok, inl, inr, refl, sym, subst}
use Rattle.std.specs.declared.alloc.Global.{Global}
use Rattle.process_tree.specs.declared.plan.Plan.{Plan}
use Rattle.process_tree.specs.declared.tree.Named.{Named}
use Rattle.process_text.specs.Words.{words_of}
use Rattle.process_text.specs.Grammar.{IsReading}
use Rattle.commute_table.specs.declared.op.Op.{Op}
use Rattle.commute_table.specs.declared.catalog.Catalog.{Catalog}
use Rattle.commute_table.specs.declared.scenario.Scenario.{Scenario}
use Rattle.commute_table.specs.Document.{Says}
use Rattle.command_refusals.specs.declared.refusal.Refusal.{Refusal}
use Rattle.command_refusals.specs.Order.{AllHold}
use Rattle.command_refusals.specs.Verdicts.{IsFirstVerdict}
use Rattle.command_input.specs.declared.scenario.NoPlans.TheVariants.{Refused, IllFormed}
use Rattle.command_input.specs.Scenarios.{ArePlansOf, AreNoGoodPlans, AreNoPlans, IsBound, IsNoScenario, IsNoText, IsNotBound, scenario_tests}

-- why a text gives no plans: its first fault, or else its first unknown operation;
abbrev pub IsPlanRefusal : List Op → List ℕ → Refusal → Type 0
IsPlanRefusal ops text r = IsNoText text r ⊎ ((ps : List Named) × IsReading (words_of text) ps × AreNoPlans ops ps r)

pub plans_refused : (ops : List Op) (text : List ℕ) (r : Refusal) → AreNoGoodPlans ops text (Refused r) → IsPlanRefusal ops text r
plans_refused ops text r (inl why) = inl why
plans_refused ops text r (inr (ps, reading, inl why)) = inr (ps, reading, why)
plans_refused ops text r (inr (ps, reading, inr (plans, are, none))) = absurd none

pub refuses_plans : (ops : List Op) (text : List ℕ) (r : Refusal) → IsPlanRefusal ops text r → AreNoGoodPlans ops text (Refused r)
refuses_plans ops text r (inl why) = inl why
refuses_plans ops text r (inr (ps, reading, why)) = inr (ps, reading, inl why)

-- or else the verdict line of its first process that isn't well-formed
abbrev pub HasVerdict : List Op → List ℕ → List ℕ → Type 0
HasVerdict ops text line =
    (ps : List Named) × IsReading (words_of text) ps × ((plans : List Plan) × ArePlansOf ops ps plans) × IsFirstVerdict ps (Some line)

pub plans_ill_formed : (ops : List Op) (text : List ℕ) (line : Vec ℕ Global) → AreNoGoodPlans ops text (IllFormed line) → HasVerdict ops text line.items
plans_ill_formed ops text line (inl none) = absurd none
plans_ill_formed ops text line (inr (ps, reading, inl none)) = absurd none
plans_ill_formed ops text line (inr (ps, reading, inr (plans, are, verdict))) = (ps, reading, (plans, are), verdict)

pub ill_forms_plans : (ops : List Op) (text : List ℕ) (line : Vec ℕ Global) → HasVerdict ops text line.items → AreNoGoodPlans ops text (IllFormed line)
ill_forms_plans ops text line (ps, reading, (plans, are), verdict) = inr (ps, reading, inr (plans, are, verdict))

-- Why a scenario gives none: its document, or else the text of its processes.
pub not_bound : (bytes : List ℕ) (r : Refusal) → IsNotBound bytes (Refused r) → IsNoScenario bytes r ⊎ ((s : Scenario) × Says bytes (Ok s) × AreNoGoodPlans s.catalog.ops s.processes (Refused r))
not_bound bytes r why = why

pub not_well_formed : (bytes : List ℕ) (line : Vec ℕ Global) → IsNotBound bytes (IllFormed line) → (s : Scenario) × Says bytes (Ok s) × AreNoGoodPlans s.catalog.ops s.processes (IllFormed line)
not_well_formed bytes line (inl none) = absurd none
not_well_formed bytes line (inr why) = why

-- All its tests hold exactly where it is bound to what they hand on.
pub bound_holds : (bytes : List ℕ) (c : Catalog) (plans : List Plan) → IsBound bytes c plans → AllHold (scenario_tests bytes) (c, plans)
bound_holds bytes c plans (text, says, (ps, reading, are, good)) = (record { catalog = c; processes = text }, says, (ps, reading, (plans, are, (refl, good))))

pub held_bound : (bytes : List ℕ) (v : Catalog × List Plan) → AllHold (scenario_tests bytes) v → IsBound bytes v.0 v.1
held_bound bytes v (s, says, (ps, reading, (plans, are, (same, good)))) =
    subst (λ (w : Catalog × List Plan). IsBound bytes w.0 w.1) (sym same) (s.processes, says, (ps, reading, are, good))
