-- What a scenario gives a command: a catalog and the plans of its processes, or why there are none. It is looked at in this order:
-- its document, the text of its processes, their operations, and whether they are well-formed.
use Rattle.std.specs.Prelude.{◌≡◌, ◌⊎◌, ℕ, List, [], ◌∷◌, Some, None, Ok, Err, ⊤}
use Rattle.process_tree.specs.Blocks.{outline}
use Rattle.process_tree.specs.declared.plan.Plan.{Plan}
use Rattle.process_tree.specs.declared.tree.Named.{Named}
use Rattle.process_text.specs.Words.{words_of}
use Rattle.process_text.specs.Grammar.{IsReading}
use Rattle.process_text.specs.Places.{text_error}
use Rattle.process_text.specs.declared.error.TextError.{TextError}
use Rattle.process_text.specs.declared.error.TextError.TheVariants as texts
use Rattle.commute_table.specs.declared.op.Op.{Op}
use Rattle.commute_table.specs.declared.catalog.Catalog.{Catalog}
use Rattle.commute_table.specs.declared.scenario.Scenario.{Scenario}
use Rattle.commute_table.specs.declared.errors.ScenarioError.{ScenarioError}
use Rattle.commute_table.specs.declared.errors.ScenarioError.TheVariants as errors
use Rattle.commute_table.specs.declared.errors.BindError.TheVariants as binds
use Rattle.commute_table.specs.Document.{Says, IsAnswer}
use Rattle.commute_table.specs.Binding.{numbers_bound, IsPlanOf}
use Rattle.command_refusals.specs.declared.faults.Quantity.TheVariants.{Operations}
use Rattle.command_refusals.specs.declared.faults.ScenarioFault.TheVariants.{BadToml, BadKey, UnknownOperation, SameOperation}
use Rattle.command_refusals.specs.declared.refusal.Refusal.{Refusal}
use Rattle.command_refusals.specs.declared.refusal.Refusal.TheVariants as refusals
use Rattle.command_refusals.specs.Shown.{shown_word}
use Rattle.command_refusals.specs.Verdicts.{IsFirstVerdict}
use Rattle.command_refusals.specs.Order.{Test, Tests, last_test, test_then, IsFirstRefusal}
use Rattle.command_input.specs.declared.scenario.NoPlans.{NoPlans}
use Rattle.command_input.specs.declared.scenario.NoPlans.TheVariants.{Refused, IllFormed}
use Rattle.command_input.specs.Inputs.{text_refusal}

-- what is told of a document that is no scenario
abbrev pub scenario_refusal : ScenarioError → Refusal
scenario_refusal errors.BadToml = refusals.Scenario BadToml
scenario_refusal (errors.BadKey key) = refusals.Scenario (BadKey (shown_word key))
scenario_refusal (errors.UnknownOp name) = refusals.Scenario (UnknownOperation (shown_word name))
scenario_refusal (errors.SameOp name) = refusals.Scenario (SameOperation name)
scenario_refusal (errors.Ops n) = refusals.Limit Operations n
scenario_refusal errors.NoMemory = refusals.NoMemory

-- the document is no scenario: its first refusal; or memory was wanting, which is free
abbrev pub IsNoScenario : List ℕ → Refusal → Type 0
IsNoScenario bytes r = (e : ScenarioError) × (r ≡ scenario_refusal e) × IsAnswer bytes (Err e)

-- the text has a fault, its first; or memory was wanting
abbrev pub IsNoText : List ℕ → Refusal → Type 0
IsNoText text r = (e : TextError) × (r ≡ text_refusal e) × ((e ≡ texts.NoMemory) ⊎ (text_error text ≡ Some e))

-- these are the plans of these processes under these operations, in order
abbrev pub ArePlansOf : List Op → List Named → List Plan → Type 0
ArePlansOf ops [] [] = ⊤
ArePlansOf ops [] (plan ∷ plans) = ⊥
ArePlansOf ops (p ∷ ps) [] = ⊥
ArePlansOf ops (p ∷ ps) (plan ∷ plans) = IsPlanOf p ops plan × ArePlansOf ops ps plans

-- the first step of a process whose operation there isn't names this one
abbrev pub IsUnknown : List Op → Named → List ℕ → Type 0
IsUnknown ops p name = numbers_bound ops [] (outline p.tree).steps ≡ Err (binds.UnknownOp name)

-- what is told of that; or memory was wanting
abbrev pub IsNoPlanOf : List Op → Named → Refusal → Type 0
IsNoPlanOf ops p r =
    (r ≡ refusals.NoMemory) ⊎ ((name : List ℕ) × (r ≡ scenario_refusal (errors.UnknownOp name)) × IsUnknown ops p name)

-- so of the first of these processes that has no plan
abbrev pub AreNoPlans : List Op → List Named → Refusal → Type 0
AreNoPlans ops [] r = ⊥
AreNoPlans ops (p ∷ ps) r = IsNoPlanOf ops p r ⊎ (((plan : Plan) × IsPlanOf p ops plan) × AreNoPlans ops ps r)

-- the text is that of processes with these plans, which are well-formed
abbrev pub AreGoodPlans : List Op → List ℕ → List Plan → Type 0
AreGoodPlans ops text plans = (ps : List Named) × IsReading (words_of text) ps × ArePlansOf ops ps plans × IsFirstVerdict ps None

-- what is told is a refusal, for this reason; a verdict line is none
abbrev pub IsRefusedFor : (Refusal → Type 0) → NoPlans → Type 0
IsRefusedFor IsWhy (Refused r) = IsWhy r
IsRefusedFor IsWhy (IllFormed line) = ⊥

-- what is told is the verdict line of the first of these processes that isn't well-formed
abbrev pub IsVerdictOf : List Named → NoPlans → Type 0
IsVerdictOf ps (Refused r) = ⊥
IsVerdictOf ps (IllFormed line) = IsFirstVerdict ps (Some line.items)

-- a test that has no verdict line
abbrev pub refusing : {A : Type 0} → Test Refusal A → Test NoPlans A
refusing t = record { hands_on = t.hands_on; refuses = IsRefusedFor t.refuses }

-- so of each test of a list
abbrev pub all_refusing : {V : Type 0} → Tests Refusal V → Tests NoPlans V
all_refusing (last_test t) = last_test (refusing t)
all_refusing (test_then t behind) = test_then (refusing t) (λ a. all_refusing (behind a))

-- the document is a scenario
abbrev pub document_test : List ℕ → Test Refusal Scenario
document_test bytes = record { hands_on = λ s. Says bytes (Ok s); refuses = IsNoScenario bytes }

-- the text is that of processes
abbrev pub processes_test : List ℕ → Test Refusal (List Named)
processes_test text = record { hands_on = IsReading (words_of text); refuses = IsNoText text }

-- each operation of these processes is known, so they have plans
abbrev pub operations_test : List Op → List Named → Test Refusal (List Plan)
operations_test ops ps = record { hands_on = ArePlansOf ops ps; refuses = AreNoPlans ops ps }

-- these processes are well-formed; this is handed on
abbrev pub well_formed_test : {V : Type 0} → List Named → V → Test NoPlans V
well_formed_test ps v = record { hands_on = λ given. (given ≡ v) × IsFirstVerdict ps None; refuses = IsVerdictOf ps }

-- The tests of a text of processes under these operations, in their order: it is read, its operations are looked up, and then it is
-- looked whether they are well-formed. What is made of the plans is handed on.
abbrev pub plan_tests : {V : Type 0} → List Op → List ℕ → (List Plan → V) → Tests NoPlans V
plan_tests ops text made =
    test_then (refusing (processes_test text)) (λ ps. test_then (refusing (operations_test ops ps)) (λ plans.
    last_test (well_formed_test ps (made plans))))

-- Why there are no such plans: what is refused first of the text.
abbrev pub AreNoGoodPlans : List Op → List ℕ → NoPlans → Type 0
AreNoGoodPlans ops text none = IsFirstRefusal (plan_tests ops text (λ plans. plans)) none

-- the document says a scenario with this catalog, the processes of whose text have these plans
abbrev pub IsBound : List ℕ → Catalog → List Plan → Type 0
IsBound bytes c plans = (text : List ℕ) × Says bytes (Ok (record { catalog = c; processes = text })) × AreGoodPlans c.ops text plans

-- The tests of a scenario, in their order: its document, and then the text of its processes. Its catalog and their plans are handed
-- on.
abbrev pub scenario_tests : List ℕ → Tests NoPlans (Catalog × List Plan)
scenario_tests bytes =
    test_then (refusing (document_test bytes)) (λ s. plan_tests s.catalog.ops s.processes (λ plans. (s.catalog, plans)))

-- Why there are none: what is refused first of it.
abbrev pub IsNotBound : List ℕ → NoPlans → Type 0
IsNotBound bytes none = IsFirstRefusal (scenario_tests bytes) none
