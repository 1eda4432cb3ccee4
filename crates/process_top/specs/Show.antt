-- The command `show`.
use Rattle.std.specs.Prelude.{[], ◌∷◌}
use Rattle.process_disk.specs.Disk.{Disk, Told}
use Rattle.commute_table.specs.declared.catalog.Catalog.{Catalog}
use Rattle.schedule_model.specs.declared.history.History.{History}
use Rattle.process_journal.specs.Journals.{IsHistoryUnder}
use Rattle.process_journal.specs.Opened.{IsJournalOf}
use Rattle.journal_input.specs.Opening.{IsNotOpened, IsOpened}
use Rattle.command_refusals.specs.declared.status.Status.{Status}
use Rattle.command_refusals.specs.declared.status.Status.TheVariants.{Done, NoMemory}
use Rattle.command_refusals.specs.Statuses.{IsOneOf}
use Rattle.command_input.specs.FilesLeft.{Files}
use Rattle.process_top.specs.Replies.{Reply, shown, refused}

-- the history of file 0, or why there is none
abbrev pub IsShowDue : Files → Files → Reply → Type 0
IsShowDue before after (shown c h) = IsOpened c h before after
IsShowDue before after (refused r) = IsNotOpened r before after
IsShowDue before after reply = ⊥

-- where file 0 is the journal of a history, it is shown, or memory is wanting
abbrev pub IsShowComplete : Disk → Status → Type 0
IsShowComplete disk status = (c : Catalog) (h : History) → IsHistoryUnder c h → Told disk → IsJournalOf c h disk.files
    → IsOneOf status (Done ∷ NoMemory ∷ [])
