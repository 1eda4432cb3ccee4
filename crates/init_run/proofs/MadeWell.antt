-- That `init` makes the files where no call failed: every other answer has a cause that isn't there.
use Rattle.std.proofs.Common.{◌≡◌, ◌≤◌, ℕ, Bool, true, List, length, Option, Some, None, Ok, Err, refl, sym, ap, subst, ◌∙◌, inl, inr, arith}
use Rattle.process_flow.specs.Causes.{Rose}
use Rattle.process_disk.specs.Disk.{Told}
use Rattle.commute_table.specs.declared.scenario.Scenario.{Scenario}
use Rattle.commute_table.specs.declared.errors.ScenarioError.{ScenarioError}
use Rattle.commute_table.specs.declared.errors.ScenarioError.TheVariants as errors
use Rattle.commute_table.specs.Document.{Says, IsAnswer, scenario_said}
use Rattle.history_files.specs.Creating.{first_used, IsDueToFiles}
use Rattle.history_files.specs.declared.faults.CreateError.{CreateError}
use Rattle.history_files.specs.declared.faults.CreateError.TheVariants as create
use Rattle.command_refusals.specs.declared.status.Status.TheVariants.{NoMemory}
use Rattle.command_refusals.specs.declared.refusal.Refusal.{Refusal}
use Rattle.value_conflict.specs.ValueConflict.{IsValueSound}
use Rattle.replay_run.proofs.SoundCatalogs.{unsound_memory}
use Rattle.command_refusals.specs.Refusals.{refusal_status}
use Rattle.command_input.specs.Inputs.{Input, most_input, HasNoText}
use Rattle.command_input.specs.FilesLeft.{Files}
use Rattle.command_input.specs.Scenarios.{scenario_refusal}
use Rattle.command_input.specs.declared.said.Said.{Said}
use Rattle.command_input.specs.declared.scenario.NoPlans.TheVariants as none
use Rattle.command_input.specs.Scenarios.{AreNoGoodPlans}
use Rattle.init_run.specs.Init.{create_refusal, IsCatalogRefused, IsFree, IsHeldBack, IsNotCreated}
use Rattle.init_run.proofs.InitParts.{IsRefusedInParts, in_parts}

-- a document says one thing
says_one : (bytes : List ℕ) (s : Scenario) (e : ScenarioError) → Says bytes (Ok s) → Says bytes (Err e) → ⊥
says_one bytes s e says other =
    let same : Some says.0 ≡ Some other.0 = sym says.2 ∙ other.2 in
    let tables : says.0 ≡ other.0 = cc in
    let both : Ok s ≡ Err e = sym says.3 ∙ ap scenario_said tables ∙ other.3 in
    absurd (cc)

says_same : (bytes : List ℕ) (s t : Scenario) → Says bytes (Ok s) → Says bytes (Ok t) → s ≡ t
says_same bytes s t says other =
    let same : Some says.0 ≡ Some other.0 = sym says.2 ∙ other.2 in
    let tables : says.0 ≡ other.0 = cc in
    let both : Ok s ≡ Ok t = sym says.3 ∙ ap scenario_said tables ∙ other.3 in
    cc

-- a scenario is not refused, unless memory is wanting
no_refusal : (bytes : List ℕ) (s : Scenario) (e : ScenarioError) → Says bytes (Ok s) → IsAnswer bytes (Err e) → refusal_status (scenario_refusal e) ≡ NoMemory
no_refusal bytes s errors.BadToml says answer =
    let none : None ≡ Some says.0 = sym (answer says.1) ∙ says.2 in absurd (cc)
no_refusal bytes s (errors.BadKey k) says answer = absurd (says_one bytes s (errors.BadKey k) says answer)
no_refusal bytes s (errors.UnknownOp name) says answer = absurd (says_one bytes s (errors.UnknownOp name) says answer)
no_refusal bytes s (errors.SameOp name) says answer = absurd (says_one bytes s (errors.SameOp name) says answer)
no_refusal bytes s (errors.Ops n) says answer = absurd (says_one bytes s (errors.Ops n) says answer)
no_refusal bytes s errors.NoMemory says answer = refl

-- without a fault of the source, a text within the limit comes, or memory is wanting
no_text_quietly : (r : Refusal) (text : List ℕ) (faults : ℕ) (after : Input) → HasNoText r (record { left = Some text; faults = faults }) after → ¬ Rose faults after.faults → length text ≤ most_input
    → refusal_status r ≡ NoMemory
no_text_quietly r text faults after (inl long) quiet within = absurd (omega (arith, long.1, within))
no_text_quietly r text faults after (inr (inl fault)) quiet within = absurd (quiet fault.1)
no_text_quietly r text faults after (inr (inr memory)) quiet within = ap refusal_status memory

-- so a scenario's catalog is read
not_read_quietly : (values strict : Bool) (r : Refusal) (text : List ℕ) (faults : ℕ) (after : Input) (s : Scenario) → IsCatalogRefused values strict r (record { left = Some text; faults = faults }) after → ¬ Rose faults after.faults
    → length text ≤ most_input → Says text (Ok s) → (values ≡ true → IsValueSound s.catalog) → (strict ≡ true → IsFree s.catalog s.processes) → refusal_status r ≡ NoMemory
not_read_quietly values strict r text faults after s (inl none) quiet within has sound free = no_text_quietly r text faults after none quiet within
not_read_quietly values strict r text faults after s (inr (bytes, whole, inl refused)) quiet within has sound free =
    ap refusal_status refused.1 ∙ no_refusal bytes s refused.0 (subst (λ (b : List ℕ). Says b (Ok s)) (sym whole.2) has) refused.2
not_read_quietly values strict r text faults after s (inr (bytes, whole, inr (t, says, inl why))) quiet within has sound free =
    let one : s ≡ t = says_same bytes s t (subst (λ (b : List ℕ). Says b (Ok s)) (sym whole.2) has) says in
    unsound_memory t.catalog r (subst (λ (u : Scenario). IsValueSound u.catalog) one (sound why.0)) why.1
not_read_quietly values strict r text faults after s (inr (bytes, whole, inr (t, says, inr (done, passed, why)))) quiet within has sound free =
    let one : t ≡ s = says_same bytes t s says (subst (λ (b : List ℕ). Says b (Ok s)) (sym whole.2) has) in
    ap refusal_status ((free why.0).read r (subst (λ (u : Scenario). AreNoGoodPlans u.catalog.ops u.processes (none.Refused r)) one why.1))

-- and nothing is held against it
pub not_held_quietly : (values strict : Bool) (said : Said) (text : List ℕ) (faults : ℕ) (after : Input) (s : Scenario) → IsHeldBack values strict (record { left = Some text; faults = faults }) after said
    → Says text (Ok s) → (strict ≡ true → IsFree s.catalog s.processes) → ⊥
not_held_quietly values strict said text faults after s (bytes, whole, (t, says, sound, (is, inl (plans, good, some, line)))) has free =
    let one : t ≡ s = says_same text t s (subst (λ (b : List ℕ). Says b (Ok t)) whole.2 says) has in
    some ((subst (λ (u : Scenario). IsFree u.catalog u.processes) (sym one) (free is)).quiet plans good)
not_held_quietly values strict said text faults after s (bytes, whole, (t, says, sound, (is, inr (line, ill, same, status)))) has free =
    let one : t ≡ s = says_same text t s (subst (λ (b : List ℕ). Says b (Ok t)) whole.2 says) has in
    (free is).formed line (subst (λ (u : Scenario). AreNoGoodPlans u.catalog.ops u.processes (none.IllFormed line)) one ill)

not_made_quietly : (e : CreateError) (before after : ℕ) → IsDueToFiles None e → (e ≡ create.DiskFault → Rose before after) → ¬ Rose before after → refusal_status (create_refusal e) ≡ NoMemory
not_made_quietly create.DiskFault before after due rose quiet = absurd (quiet (rose refl))
not_made_quietly (create.NotEmpty q) before after due rose quiet = absurd (cc)
not_made_quietly create.NoMemory before after due rose quiet = refl

-- the files of a scenario's catalog are made where all are empty, or memory was wanting
pub not_created_quietly : (values strict : Bool) (r : Refusal) (text : List ℕ) (faults : ℕ) (after : Input) (files files_after : Files) (s : Scenario)
    → IsNotCreated values strict r (record { left = Some text; faults = faults }) after files files_after
    → ¬ Rose faults after.faults → ¬ Rose files.faults files_after.faults → length text ≤ most_input → Says text (Ok s) → (values ≡ true → IsValueSound s.catalog)
    → (strict ≡ true → IsFree s.catalog s.processes) → Told files.disk → first_used files.disk.files ≡ None → refusal_status r ≡ NoMemory
not_created_quietly values strict r text faults after files files_after s not_created quiet quiet_files within has sound free told empty =
    by_part (in_parts values strict r (record { left = Some text; faults = faults }) after files files_after not_created)
  where
    by_part : IsRefusedInParts values strict r (record { left = Some text; faults = faults }) after files files_after → refusal_status r ≡ NoMemory
    by_part (inl why) = not_read_quietly values strict r text faults after s why.0 quiet within has sound free
    by_part (inr why) =
        let made = why.1 in
        ap refusal_status made.1 ∙ not_made_quietly made.0 files.faults files_after.faults (subst (λ (found : Option ℕ). IsDueToFiles found made.0) empty (made.2 told)) made.4 quiet_files
