-- The command `init`.
use Rattle.std.specs.Prelude.{Bool}
use Rattle.init_run.specs.Init.{IsCreated, IsHeldBack, IsNotCreated}
use Rattle.command_input.specs.Inputs.{Input}
use Rattle.command_input.specs.FilesLeft.{Files, AreUntouched}
use Rattle.process_top.specs.Replies.{Reply, created, ended, refused}

-- that the files of the scenario's catalog were made, or what is held against it, or why they were not made
abbrev pub IsInitDue : Bool → Bool → Input → Input → Files → Files → Reply → Type 0
IsInitDue values strict before after files files_after created = IsCreated values strict before after files files_after
IsInitDue values strict before after files files_after (ended said) =
    IsHeldBack values strict before after said × AreUntouched files files_after
IsInitDue values strict before after files files_after (refused r) = IsNotCreated values strict r before after files files_after
IsInitDue values strict before after files files_after reply = ⊥
