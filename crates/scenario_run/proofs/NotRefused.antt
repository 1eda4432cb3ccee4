-- The text of a scenario isn't refused, but for want of memory.
use Rattle.std.proofs.Common.{◌≡◌, ◌⊎◌, ◌∙◌, ℕ, List, [], ◌∷◌, map, Some, None, Ok, Err, inl, inr, ap, sym, subst}
use Rattle.process_tree.specs.Blocks.{Outline}
use Rattle.process_tree.specs.Shape.{Shape, shape_of}
use Rattle.process_tree.specs.Termination.{Fault, IsFault, IsWellFormed, stuck_at, unreachable_at}
use Rattle.process_tree.specs.declared.plan.Plan.{Plan}
use Rattle.process_tree.specs.declared.tree.Named.{Named}
use Rattle.process_tree.proofs.Forms.{same_outline}
use Rattle.process_text.specs.Words.{words_of}
use Rattle.process_text.specs.Grammar.{IsReading}
use Rattle.process_text.specs.Again.{AreAlike, HasReading, ReadingOrFault}
use Rattle.process_text.specs.declared.error.TextError.{TextError}
use Rattle.process_text.specs.Places.{text_error}
use Rattle.commute_table.specs.declared.op.Op.{Op}
use Rattle.commute_table.specs.declared.scenario.Scenario.{Scenario}
use Rattle.commute_table.specs.declared.errors.ScenarioError.TheVariants as errors
use Rattle.commute_table.specs.declared.errors.BindError.TheVariants.{UnknownOp}
use Rattle.commute_table.specs.Binding.{numbers_bound}
use Rattle.commute_table.specs.Document.{Said, Says, scenario_said}
use Rattle.command_refusals.specs.Verdicts.{IsFirstVerdict}
use Rattle.command_refusals.specs.declared.refusal.Refusal.{Refusal}
use Rattle.command_refusals.specs.declared.refusal.Refusal.TheVariants.{NoMemory}
use Rattle.command_input.specs.Inputs.{text_refusal}
use Rattle.command_input.specs.Scenarios.{ArePlansOf, AreNoPlans, IsNoScenario, IsNoText}

module _ (bytes : List ℕ) where
  -- a document says one thing
  pub says_one : (x y : Said Scenario) → Says bytes x → Says bytes y → x ≡ y
  says_one x y one two =
      let parsed : Some one.0 ≡ Some two.0 = sym one.2 ∙ two.2 in
      let same : one.0 ≡ two.0 = cc in
      sym one.3 ∙ (ap scenario_said same ∙ two.3)

  -- one that says a scenario isn't refused
  pub no_scenario : (s : Scenario) (r : Refusal) → Says bytes (Ok s) → IsNoScenario bytes r → r ≡ NoMemory
  no_scenario s r says (errors.BadToml, is, why) = absurd (let none = why says.1 in let some = says.2 in cc)
  no_scenario s r says (errors.BadKey key, is, why) = absurd (let no = says_one (Ok s) (Err (errors.BadKey key)) says why in cc)
  no_scenario s r says (errors.UnknownOp name, is, why) = absurd (let no = says_one (Ok s) (Err (errors.UnknownOp name)) says why in cc)
  no_scenario s r says (errors.SameOp name, is, why) = absurd (let no = says_one (Ok s) (Err (errors.SameOp name)) says why in cc)
  no_scenario s r says (errors.Ops n, is, why) = absurd (let no = says_one (Ok s) (Err (errors.Ops n)) says why in cc)
  no_scenario s r says (errors.NoMemory, is, why) = is

-- nor one that is read
pub no_text : ReadingOrFault → (text : List ℕ) (ps : List Named) (r : Refusal) → IsReading (words_of text) ps → IsNoText text r → r ≡ NoMemory
no_text law text ps r reading (e, is, inl memory) = is ∙ ap text_refusal memory
no_text law text ps r reading (e, is, inr fault) = by_law (law text)
  where
    by_law : (HasReading text × (text_error text ≡ None)) ⊎ ((¬ HasReading text) × ((x : TextError) × (text_error text ≡ Some x))) → r ≡ NoMemory
    by_law (inl has) = absurd (let none = has.1 in cc)
    by_law (inr none) = absurd (none.0 (ps, reading))

-- nor are processes whose operations there are
pub no_plans : (ops : List Op) (ps qs : List Named) → AreAlike ps qs → (plans : List Plan) → ArePlansOf ops ps plans → (r : Refusal) → AreNoPlans ops qs r → r ≡ NoMemory
no_plans ops [] [] alike plans are r none = absurd none
no_plans ops [] (q ∷ qs) alike plans are r none = absurd alike
no_plans ops (p ∷ ps) [] alike plans are r none = absurd alike
no_plans ops (p ∷ ps) (q ∷ qs) alike [] are r none = absurd are
no_plans ops (p ∷ ps) (q ∷ qs) alike (plan ∷ plans) are r (inl (inl memory)) = memory
no_plans ops (p ∷ ps) (q ∷ qs) alike (plan ∷ plans) are r (inl (inr (name, is, unknown))) =
    absurd (let known = are.0.numbers in
    let no : Ok plan.ops ≡ Err (UnknownOp name) = sym known ∙ (ap (λ (o : Outline). numbers_bound ops [] o.steps) (same_outline p.tree q.tree alike.1) ∙ unknown) in cc)
no_plans ops (p ∷ ps) (q ∷ qs) alike (plan ∷ plans) are r (inr (has, later)) = no_plans ops ps qs alike.2 plans are.1 r later

-- a well-formed shape has no fault
no_fault : (t : Shape) → IsWellFormed t → (fault : Fault) → IsFault t fault → ⊥
no_fault t well (stuck_at b os) is = well.never_stuck os b is.1
no_fault t well (unreachable_at d) is = is.1 (well.reached d is.0)

-- so no verdict line is of one of well-formed processes
pub no_verdict : (ps qs : List Named) → AreAlike ps qs → IsFirstVerdict ps None → (line : List ℕ) → IsFirstVerdict qs (Some line) → ⊥
no_verdict [] [] alike good line bad = bad
no_verdict [] (q ∷ qs) alike good line bad = alike
no_verdict (p ∷ ps) [] alike good line bad = alike
no_verdict (p ∷ ps) (q ∷ qs) alike (inl bad') line bad = bad'
no_verdict (p ∷ ps) (q ∷ qs) alike (inr good) line (inl (fault, first, is)) =
    no_fault (shape_of p.tree) good.0 fault
    (subst (λ (o : Outline). IsFault (record { kinds = map (λ s. s.kind) o.steps; paths = o.paths }) fault) (sym (same_outline p.tree q.tree alike.1)) first.is)
no_verdict (p ∷ ps) (q ∷ qs) alike (inr good) line (inr bad) = no_verdict ps qs alike.2 good.1 line bad.1
