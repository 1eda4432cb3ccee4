-- What is said to people beside an answer.
use Rattle.std.specs.Prelude.{◌≡◌, ◌⊎◌, ℕ, Bool, true, false, ◌&&◌, ◌||◌, nat_eq, List, [], ◌∷◌, codes, Option, Some, None, if◌then◌else◌}
use Rattle.std.specs.Str.{bytes_eq}
use Rattle.process_tree.specs.declared.plan.Plan.{Plan}
use Rattle.commute_table.specs.declared.catalog.Catalog.{Catalog}
use Rattle.command_refusals.specs.declared.refusal.Refusal.{Refusal}
use Rattle.command_refusals.specs.declared.status.Status.{Status}
use Rattle.command_refusals.specs.declared.status.Status.TheVariants.{Done, IllFormed}
use Rattle.command_refusals.specs.Statuses.{number_of}
use Rattle.command_input.specs.declared.scenario.NoPlans.{NoPlans}
use Rattle.command_input.specs.Scenarios.{IsBound, IsNotBound}
use Rattle.command_input.specs.Outputs.{Output, IsTold}
use Rattle.refusal_hints.specs.declared.documents.InputForm.{InputForm}
use Rattle.refusal_hints.specs.declared.documents.InputForm.TheVariants.{Processes, Scenario}
use Rattle.refusal_hints.specs.Hints.{IsHint, hint_text}
use Rattle.refusal_hints.specs.Pointing.{nowhere}
use Rattle.refusal_hints.specs.Remedies.{ending_hint, starved_hint}
use Rattle.scenario_warnings.specs.Warnings.{warnings}
use Rattle.scenario_warnings.specs.Lines.{shown}

-- the first of the words is this one
abbrev pub first_is : List ℕ → List (List ℕ) → Bool
first_is word [] = false
first_is word (first ∷ words) = bytes_eq first word

-- what the input of a call is: `check` and `expand` read a text of processes, and all others that read a text of processes a scenario
-- around it
abbrev pub form_of : List (List ℕ) → InputForm
form_of words = if first_is (codes "check") words || first_is (codes "expand") words then Processes else Scenario

-- an `init` that made its files looks for warnings, and so does one that had something to hold against its scenario
abbrev pub warns : List (List ℕ) → ℕ → Bool
warns words number = first_is (codes "init") words && (nat_eq number (number_of Done) || nat_eq number (number_of IllFormed))

-- the hint of a refusal of this input; where the input doesn't fit, the same without a place
abbrev pub IsHintOf : InputForm → Option (List ℕ) → Refusal → List ℕ → Type 0
IsHintOf form (Some input) r text = IsHint form input r text
IsHintOf form None r text = text ≡ hint_text nowhere r

-- the warnings of the scenario that this input is; what there is to say of a status of this number where it has no processes that can
-- be played, or memory was wanting
abbrev pub AreWarningsIn : ℕ → List ℕ → List ℕ → Type 0
AreWarningsIn number input text =
    ((c : Catalog) × (plans : List Plan) × IsBound input c plans × (text ≡ shown c.ops plans (warnings c plans)))
    ⊎ ((none : NoPlans) × IsNotBound input none × (text ≡ ending_hint number))

-- the same of an input that may not fit
abbrev pub AreWarningsOf : ℕ → Option (List ℕ) → List ℕ → Type 0
AreWarningsOf number (Some input) text = AreWarningsIn number input text
AreWarningsOf number None text = text ≡ ending_hint number

-- so where warnings are looked for, and else what there is to say of a status of this number
abbrev pub IsAboutEnd : Bool → ℕ → Option (List ℕ) → List ℕ → Type 0
IsAboutEnd true number input text = AreWarningsOf number input text
IsAboutEnd false number input text = text ≡ ending_hint number

-- what there is to say beside an answer on these words, at a status of this number, with this refusal or none, of an input: the
-- hint of the refusal, or the warnings, or what is to be said of the status
abbrev pub IsBeside : List (List ℕ) → ℕ → Option Refusal → Option (List ℕ) → List ℕ → Type 0
IsBeside words number (Some r) input text = IsHintOf (form_of words) input r text
IsBeside words number None input text = IsAboutEnd (warns words number) number input text

-- whether memory may be wanting for it
abbrev pub takes_memory : List (List ℕ) → ℕ → Option Refusal → Bool
takes_memory words number (Some r) = true
takes_memory words number None = warns words number

-- it is this; or memory was wanting for it, and this says so
abbrev pub IsBesideOrStarved : List (List ℕ) → ℕ → Option Refusal → Option (List ℕ) → List ℕ → Type 0
IsBesideOrStarved words number refused input text =
    IsBeside words number refused input text ⊎ ((takes_memory words number refused ≡ true) × (text ≡ starved_hint))

-- that was said: it went out, or the sink failed, and a beginning of it did
abbrev pub IsSaidBeside : List (List ℕ) → ℕ → Option Refusal → Option (List ℕ) → Output → Output → Type 0
IsSaidBeside words number refused input out out_after =
    (text : List ℕ) × IsBesideOrStarved words number refused input text × ((at : Status) × IsTold Done text out out_after at)
