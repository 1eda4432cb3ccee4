-- What `init` has to say is due.
use Rattle.std.proofs.Common.{◌≡◌, ℕ, List, Bool, Result, Ok, Err, IfOk, IfErr, refl, sym, subst, inl, inr}
use Rattle.process_disk.specs.Disk.{Disk, Told, IsHonest, Same}
use Rattle.process_disk.specs.Images.{AllAsBefore}
use Rattle.process_disk.proofs.Images.{run_none}
use Rattle.commute_table.specs.declared.catalog.Catalog.{Catalog}
use Rattle.command_refusals.specs.declared.refusal.Refusal.{Refusal}
use Rattle.command_input.specs.declared.said.Said.{Said}
use Rattle.command_input.specs.Inputs.{Input}
use Rattle.command_input.specs.FilesLeft.{Files}
use Rattle.history_files.specs.declared.faults.CreateError.{CreateError}
use Rattle.history_files.specs.declared.faults.CreateError.TheVariants as create
use Rattle.command_refusals.specs.declared.refusal.Refusal.TheVariants as refusals
use Rattle.init_run.specs.Init.{create_refusal, AreMade, AreNotMade, IsCatalogRead, IsInitDue, IsOfFiles, SaysCreated}
use Rattle.init_run.proofs.InitParts.{first_of_parts}

-- where a catalog was read
pub due_of_read : (values strict : Bool) (before after : Input) (files files_after : Files) (c : Catalog) (line : Said) (found : Result Said Refusal) → IsCatalogRead values strict before after c → SaysCreated line → IfOk found (λ s. s ≡ line)
    → IfOk found (λ _. AreMade c files files_after) → IfErr found (λ r. AreNotMade r files files_after) → IsInitDue values strict before after files files_after found
due_of_read values strict before after files files_after c line (Ok s) read says is made refused = inl (subst SaysCreated (sym is) says, (c, read, made))
due_of_read values strict before after files files_after c line (Err r) read says is made refused = first_of_parts values strict r before after files files_after (inr ((c, read), refused))

-- nothing was written
pub untouched : (disk : Disk) → (Told disk → IsHonest disk) → Told disk → AllAsBefore disk disk
untouched disk honest told = run_none Same disk (λ c. refl) (honest told)

-- what is told of files says nothing of a catalog
pub made_of_files : (e : CreateError) → IsOfFiles (create_refusal e)
made_of_files create.DiskFault a b is = absurd (cc)
made_of_files (create.NotEmpty q) a b is = absurd (cc)
made_of_files create.NoMemory a b is = absurd (cc)

-- so no catalog is refused once files are looked at
pub no_catalog : (P : Type 0) (found : Result Said Refusal) → IfErr found IsOfFiles → IfErr found (λ r. (a b : List ℕ) → r ≡ refusals.Commuting a b → P)
no_catalog P (Ok said) of_files = tt
no_catalog P (Err r) of_files = λ a b is. absurd (of_files a b is)
