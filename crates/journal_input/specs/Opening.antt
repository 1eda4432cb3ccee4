-- What is read of file 0 where it alone is opened.
use Rattle.std.specs.Prelude.{◌≡◌}
use Rattle.process_flow.specs.Causes.{Rose}
use Rattle.process_disk.specs.Disk.{Told, file_of}
use Rattle.process_disk.specs.Images.{EachImage}
use Rattle.gate_log.specs.LogFile.{read_log}
use Rattle.commute_table.specs.declared.catalog.Catalog.{Catalog}
use Rattle.schedule_model.specs.declared.history.History.{History}
use Rattle.process_journal.specs.declared.errors.JournalError.{JournalError}
use Rattle.process_journal.specs.declared.errors.JournalError.TheVariants as journal
use Rattle.process_journal.specs.Journals.{IsHistoryUnder}
use Rattle.process_journal.specs.Opened.{IsJournalOf}
use Rattle.process_journal.specs.Reading.{IsDue}
use Rattle.command_refusals.specs.declared.faults.FileFault.TheVariants.{BadHeader, BadRecord, BadHistory}
use Rattle.command_refusals.specs.declared.refusal.Refusal.{Refusal}
use Rattle.command_refusals.specs.declared.refusal.Refusal.TheVariants as refusals
use Rattle.command_refusals.specs.Order.{Test, Tests, last_test, IsFirstRefusal}
use Rattle.command_input.specs.FilesLeft.{Files}

-- what is told of a journal that was not opened
abbrev pub journal_refusal : JournalError → Refusal
journal_refusal journal.DiskFault = refusals.DiskFault
journal_refusal journal.BadHeader = refusals.File (BadHeader 0)
journal_refusal (journal.BadRecord n) = refusals.File (BadRecord 0 n)
journal_refusal (journal.BadHistory n) = refusals.File (BadHistory n)
journal_refusal journal.NoMemory = refusals.NoMemory

-- File 0, where it is told, is the journal of this catalog and history, and so is each image of it from then on.
abbrev pub IsOpened : Catalog → History → Files → Files → Type 0
IsOpened c h before after =
    IsHistoryUnder c h × (Told before.disk → IsJournalOf c h before.disk.files
    × EachImage after.disk after.disk.moment (IsJournalOf c h))

-- The test of file 0: it is the journal of a history, which is handed on with its catalog. Else it is no log, or a record is at
-- fault, the first in order; or the rack failed; or memory was wanting.
abbrev pub journal_test : Files → Files → Test Refusal (Catalog × History)
journal_test before after = record {
  hands_on = λ own. IsOpened own.0 own.1 before after;
  refuses = λ r.
      (e : JournalError) × (r ≡ journal_refusal e) × (Told before.disk → IsDue (read_log 0 (file_of before.disk.files 0)) e)
      × (e ≡ journal.DiskFault → Rose before.faults after.faults);
}

-- the tests of file 0: that alone
abbrev pub journal_tests : Files → Files → Tests Refusal (Catalog × History)
journal_tests before after = last_test (journal_test before after)

-- why file 0 was not opened: what is refused first
abbrev pub IsNotOpened : Refusal → Files → Files → Type 0
IsNotOpened r before after = IsFirstRefusal (journal_tests before after) r
