-- The command `init`: it makes nine empty files those of the catalog of a scenario, in which nothing has happened. The text of the
-- scenario's processes isn't looked at. Where it is asked to, it refuses a catalog that names not each conflict in value. Where it is
-- to be strict, it looks at the processes too, and makes nothing where there is something to warn of.
use Rattle.std.specs.Prelude.{◌≡◌, ◌≢◌, ◌≤◌, ◌⊎◌, ℕ, Bool, true, List, [], ◌∷◌, ◌++◌, length, None, IfSome, Result, Ok, Err, Vec, codes, decimal, ⊤}
use Rattle.std.specs.declared.alloc.Global.{Global}
use Rattle.process_tree.specs.declared.plan.Plan.{Plan}
use Rattle.process_flow.specs.Causes.{Rose}
use Rattle.process_disk.specs.Disk.{Disk, Told}
use Rattle.process_disk.specs.Images.{EachImage}
use Rattle.commute_table.specs.declared.catalog.Catalog.{Catalog}
use Rattle.commute_table.specs.declared.scenario.Scenario.{Scenario}
use Rattle.commute_table.specs.Document.{Says}
use Rattle.scenario_warnings.specs.Warnings.{warnings}
use Rattle.process_journal.specs.Bodies.{no_history}
use Rattle.history_files.specs.Creating.{first_used, IsDueToFiles, AreLeftUnmade}
use Rattle.history_files.specs.Sound.{IsSound}
use Rattle.history_files.specs.declared.faults.CreateError.{CreateError}
use Rattle.history_files.specs.declared.faults.CreateError.TheVariants as create
use Rattle.command_refusals.specs.declared.faults.FileFault.TheVariants.{NotEmpty}
use Rattle.command_refusals.specs.declared.refusal.Refusal.{Refusal}
use Rattle.command_refusals.specs.declared.refusal.Refusal.TheVariants as refusals
use Rattle.command_refusals.specs.declared.status.Status.{Status}
use Rattle.command_refusals.specs.declared.status.Status.TheVariants.{Done, IllFormed, NoMemory}
use Rattle.command_refusals.specs.Order.{Test, Tests, last_test, test_then, IsFirstRefusal, followed_by}
use Rattle.command_refusals.specs.Statuses.{IsOneOf}
use Rattle.command_input.specs.declared.said.Said.{Said}
use Rattle.command_input.specs.Inputs.{Input, most_input, text_test, IsWholeText}
use Rattle.command_input.specs.FilesLeft.{Files, AreUntouched, before_files}
use Rattle.command_input.specs.declared.scenario.NoPlans.TheVariants as none
use Rattle.command_input.specs.Scenarios.{document_test, AreGoodPlans, AreNoGoodPlans}
use Rattle.value_conflict.specs.ValueConflict.{IsValueSound}
use Rattle.replay_run.specs.Soundness.{IsUnsound}

-- the text is that of well-formed processes under this catalog, and there is nothing to warn of
abbrev pub IsWithoutWarning : Catalog → List ℕ → Type 0
IsWithoutWarning c text = (plans : List Plan) × AreGoodPlans c.ops text plans × (warnings c plans ≡ [])

-- the source was read to its end, and had the document of a scenario with this catalog, which names each conflict in value where
-- that is asked; and where it is to be strict, there is nothing to warn of
abbrev pub IsCatalogRead : Bool → Bool → Input → Input → Catalog → Type 0
IsCatalogRead values strict before after c =
    (bytes : List ℕ) × IsWholeText before after bytes × ((text : List ℕ) × Says bytes (Ok (record { catalog = c; processes = text }))
    × (values ≡ true → IsValueSound c) × (strict ≡ true → IsWithoutWarning c text))

-- the test of the values, where it is asked: the catalog names each conflict in value
abbrev pub values_test : Bool → Catalog → Test Refusal ⊤
values_test values c =
    record { hands_on = λ _. values ≡ true → IsValueSound c; refuses = λ r. (values ≡ true) × IsUnsound c r }

-- the test of the processes, where it is to be strict: their text is read, and each operation of theirs is known
abbrev pub strict_test : Bool → Scenario → Test Refusal ⊤
strict_test strict s = record {
  hands_on = λ _. strict ≡ true → IsWithoutWarning s.catalog s.processes;
  refuses = λ r. (strict ≡ true) × AreNoGoodPlans s.catalog.ops s.processes (none.Refused r);
}

-- The tests of the input, in their order: its text comes, it is the document of a scenario, its catalog passes, and its processes do.
abbrev pub input_tests : Bool → Bool → Input → Input → Tests Refusal ⊤
input_tests values strict before after =
    test_then (text_test before after) (λ bytes. test_then (document_test bytes) (λ s.
    test_then (values_test values s.catalog) (λ _. last_test (strict_test strict s))))

-- why no catalog was read: what is refused first of the input
abbrev pub IsCatalogRefused : Bool → Bool → Refusal → Input → Input → Type 0
IsCatalogRefused values strict r before after = IsFirstRefusal (input_tests values strict before after) r

-- the line of a scenario that is warned of so often
pub record SaysWarned (count : ℕ) (said : Said) : Type 0 where
  pub text : said.text.items ≡ codes "warned " ++ decimal count ++ codes "\n"
  pub status : said.status ≡ IllFormed

-- there is something to warn of, and it is said how often
abbrev pub IsWarned : Catalog → List ℕ → Said → Type 0
IsWarned c text said = (plans : List Plan) × AreGoodPlans c.ops text plans × (warnings c plans ≢ []) × SaysWarned (length (warnings c plans)) said

-- the verdict line of the first process that isn't well-formed is said
abbrev pub IsIllFormed : Catalog → List ℕ → Said → Type 0
IsIllFormed c text said =
    (line : Vec ℕ Global) × AreNoGoodPlans c.ops text (none.IllFormed line) × (said.text ≡ line) × (said.status ≡ IllFormed)

-- the processes are held against a scenario that is to be strict
abbrev pub IsHeldAgainst : Bool → Catalog → List ℕ → Said → Type 0
IsHeldAgainst strict c text said = (strict ≡ true) × (IsWarned c text said ⊎ IsIllFormed c text said)

-- the input was read and its catalog passed, and its processes are held against it
abbrev pub IsHeldBack : Bool → Bool → Input → Input → Said → Type 0
IsHeldBack values strict before after said =
    (bytes : List ℕ) × IsWholeText before after bytes × ((s : Scenario) × Says bytes (Ok s) × (values ≡ true → IsValueSound s.catalog)
    × IsHeldAgainst strict s.catalog s.processes said)

-- what is told of files that were not made
abbrev pub create_refusal : CreateError → Refusal
create_refusal create.DiskFault = refusals.DiskFault
create_refusal (create.NotEmpty q) = refusals.File (NotEmpty q)
create_refusal create.NoMemory = refusals.NoMemory

-- The nine files, where they are told, were empty. They are the journal of this catalog and the books of a history without events,
-- and so is each image of them from then on.
pub record AreMade (c : Catalog) (before after : Files) : Type 0 where
  pub empty : Told before.disk → first_used before.disk.files ≡ None
  pub read : Told before.disk → IsSound c no_history after.disk.files
  pub each : Told before.disk → EachImage after.disk after.disk.moment (IsSound c no_history)

-- They were not made: this is the first that isn't empty, and they are as they were; or the rack failed; or memory was wanting.
abbrev pub AreNotMade : Refusal → Files → Files → Type 0
AreNotMade r before after =
    (e : CreateError) × (r ≡ create_refusal e) × (Told before.disk → IsDueToFiles (first_used before.disk.files) e)
    × (Told before.disk → AreLeftUnmade e before.disk after.disk)
    × (e ≡ create.DiskFault → Rose before.faults after.faults)

-- the refusal says nothing of a catalog
abbrev pub IsOfFiles : Refusal → Type 0
IsOfFiles r = (a b : List ℕ) → r ≢ refusals.Commuting a b

-- the line of files that were made, at status 0
pub record SaysCreated (said : Said) : Type 0 where
  pub text : said.text.items ≡ codes "created\n"
  pub status : said.status ≡ Done

-- the files of the scenario's catalog were made
abbrev pub IsCreated : Bool → Bool → Input → Input → Files → Files → Type 0
IsCreated values strict before after files files_after =
    (c : Catalog) × IsCatalogRead values strict before after c × AreMade c files files_after

-- the test of the files: they are empty
abbrev pub empty_test : Files → Files → Test Refusal ⊤
empty_test before after =
    record { hands_on = λ _. Told before.disk → first_used before.disk.files ≡ None; refuses = λ r. AreNotMade r before after }

-- The order of the refusals of `init`: the tests of its input, before a file is looked at, and then that of the files.
abbrev pub init_tests : Bool → Bool → Input → Input → Files → Files → Tests Refusal ⊤
init_tests values strict before after files files_after =
    followed_by (before_files files files_after (input_tests values strict before after)) (λ _. last_test (empty_test files files_after))

-- why they were not made: what is refused first
abbrev pub IsNotCreated : Bool → Bool → Refusal → Input → Input → Files → Files → Type 0
IsNotCreated values strict r before after files files_after = IsFirstRefusal (init_tests values strict before after files files_after) r

-- what is said where files may be made: that they were, or what is held against the scenario, and they are as they were
abbrev pub IsInitSaid : Bool → Bool → Input → Input → Files → Files → Said → Type 0
IsInitSaid values strict before after files files_after said =
    (SaysCreated said × IsCreated values strict before after files files_after)
    ⊎ (IsHeldBack values strict before after said × AreUntouched files files_after)

-- What there is to say: that they were made, or why not.
abbrev pub IsInitDue : Bool → Bool → Input → Input → Files → Files → Result Said Refusal → Type 0
IsInitDue values strict before after files files_after (Ok said) = IsInitSaid values strict before after files files_after said
IsInitDue values strict before after files files_after (Err r) = IsNotCreated values strict r before after files files_after

-- Nothing is to be held against the text of a scenario's processes.
pub record IsFree (c : Catalog) (text : List ℕ) : Type 0 where
  -- it isn't refused, but for want of memory
  pub read : (r : Refusal) → AreNoGoodPlans c.ops text (none.Refused r) → r ≡ refusals.NoMemory
  -- none of its processes isn't well-formed
  pub formed : (line : Vec ℕ Global) → ¬ AreNoGoodPlans c.ops text (none.IllFormed line)
  -- there is nothing to warn of
  pub quiet : (plans : List Plan) → AreGoodPlans c.ops text plans → warnings c plans ≡ []

-- where the input is a scenario, whose catalog names each conflict in value if that is asked, of whose processes there is nothing to
-- warn if it is to be strict, and all files are empty, they are made, or memory is wanting
abbrev pub IsInitComplete : Bool → Bool → Input → Disk → Status → Type 0
IsInitComplete values strict input disk status =
    IfSome input.left (λ text. (s : Scenario) → length text ≤ most_input → Says text (Ok s) → (values ≡ true → IsValueSound s.catalog)
    → (strict ≡ true → IsFree s.catalog s.processes) → Told disk → first_used disk.files ≡ None
    → IsOneOf status (Done ∷ NoMemory ∷ []))
