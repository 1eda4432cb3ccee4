-- The command `serve`.
use Rattle.std.specs.Prelude.{[], ◌∷◌, List, ℕ, Ok, Err}
use Rattle.process_disk.specs.Disk.{Told}
use Rattle.process_tree.specs.declared.plan.Plan.{Plan}
use Rattle.schedule_model.specs.declared.history.History.{History}
use Rattle.commute_table.specs.declared.catalog.Catalog.{Catalog}
use Rattle.history_files.specs.Sound.{IsSound}
use Rattle.command_refusals.specs.declared.status.Status.{Status}
use Rattle.command_refusals.specs.declared.status.Status.TheVariants.{Done, NoMemory}
use Rattle.command_refusals.specs.Statuses.{IsOneOf}
use Rattle.command_input.specs.Inputs.{Input}
use Rattle.command_input.specs.FilesLeft.{Files}
use Rattle.serve_run.specs.Serve.{HasScene, IsNotServed, IsServeTold}
use Rattle.process_top.specs.Replies.{Reply, ended, refused, served}

-- what a dialogue printed, to its end; or the verdict line of the first process of the scenario that isn't well-formed; or what is
-- refused
abbrev pub IsServeDue : Input → Input → Files → Files → Reply → Type 0
IsServeDue before after files files_after (served d status) = IsServeTold before after files files_after d status
IsServeDue before after files files_after (ended said) = IsNotServed before after files files_after (Ok said)
IsServeDue before after files files_after (refused r) = IsNotServed before after files files_after (Err r)
IsServeDue before after files files_after reply = ⊥

-- where a scenario stands in front of the input's mark, and the files are sound, the dialogue is held to its end, or memory is
-- wanting
abbrev pub IsServeComplete : Input → Files → Status → Type 0
IsServeComplete input files status =
    (bytes : List ℕ) (c : Catalog) (plans : List Plan) (h : History) → HasScene input bytes c plans → Told files.disk
    → IsSound c h files.disk.files → IsOneOf status (Done ∷ NoMemory ∷ [])
