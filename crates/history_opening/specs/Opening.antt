-- What is read of the stores.
use Rattle.std.specs.Prelude.{◌≡◌, ◌⊎◌, ℕ, ◌+◌, ◌<◌, List, Option, Some, None, Result, Ok, Err}
use Rattle.process_disk.specs.Disk.{FileSet, file_of}
use Rattle.gate_log.specs.LogFile.{read_log}
use Rattle.schedule_model.specs.declared.history.History.{History}
use Rattle.commute_table.specs.declared.catalog.Catalog.{Catalog}
use Rattle.commute_table.specs.declared.op.Op.{Op}
use Rattle.process_journal.specs.Journals.{IsHistoryUnder}
use Rattle.process_journal.specs.Opened.{IsJournalOf}
use Rattle.process_journal.specs.declared.errors.JournalError.{JournalError}
use Rattle.process_journal.specs.declared.errors.JournalError.TheVariants as journal
use Rattle.process_journal.specs.Reading.{IsDue}
use Rattle.subsystem_store.specs.declared.errors.StoreError.{StoreError}
use Rattle.subsystem_store.specs.declared.errors.StoreError.TheVariants as store
use Rattle.subsystem_store.specs.Answers.{RefusedAs}
use Rattle.subsystem_store.specs.Order.{Book, read_store}
use Rattle.subsystem_store.specs.declared.effect.Effect.{Effect}
use Rattle.history_files.specs.Effects.{effects}
use Rattle.history_files.specs.Sound.{kind_of}
use Rattle.history_opening.specs.declared.faults.BookFault.{BookFault}
use Rattle.history_opening.specs.declared.faults.OpenError.{OpenError}
use Rattle.history_opening.specs.declared.faults.OpenError.TheVariants.{DiskFault, BadHeader, BadRecord, BadHistory, BadBook}
use Rattle.history_opening.specs.declared.faults.OpenError.TheVariants.{BookDiffers, NoMemory}
use Rattle.history_opening.specs.Comparing.{book_difference}

-- what a store's refusal is of the files
abbrev pub of_store_error : ℕ → StoreError → OpenError
of_store_error file store.DiskFault = DiskFault
of_store_error file store.BadHeader = BadHeader file
of_store_error file (store.BadRecord n) = BadRecord file n
of_store_error file (store.BadBook n) = BadBook file n
of_store_error file store.NoMemory = NoMemory

-- the book of subsystem q in these files, and what is in doubt in it; or the first place where it is no store
abbrev pub book_in : FileSet → ℕ → Result Book StoreError
book_in files q = read_store (kind_of q) (q + 1) (file_of files (q + 1))

-- A refusal is due where a store was refused so, and those of the subsystems before it were read.
pub record IsDueToStore (files : FileSet) (e : OpenError) : Type 0 where
  pub subsystem : ℕ
  pub within : subsystem < 8
  pub why : StoreError
  pub is : e ≡ of_store_error (subsystem + 1) why
  pub refused : RefusedAs (book_in files subsystem) why
  pub earlier : (p : ℕ) → p < subsystem → (b : Book) × (book_in files p ≡ Ok b)

-- what a journal's refusal is of the files
abbrev pub of_journal_error : JournalError → OpenError
of_journal_error journal.DiskFault = DiskFault
of_journal_error journal.BadHeader = BadHeader 0
of_journal_error (journal.BadRecord n) = BadRecord 0 n
of_journal_error (journal.BadHistory n) = BadHistory n
of_journal_error journal.NoMemory = NoMemory

-- A refusal is due where the journal was refused so.
pub record IsDueToJournal (files : FileSet) (e : OpenError) : Type 0 where
  pub why : JournalError
  pub is : e ≡ of_journal_error why
  pub refused : IsDue (read_log 0 (file_of files 0)) why

-- file 0 is the journal of this history, which one of this catalog may have
abbrev pub IsReadOf : Catalog → History → FileSet → Type 0
IsReadOf c h files = IsHistoryUnder c h × IsJournalOf c h files

-- or where a store was, and the journal wasn't
abbrev pub IsDueToReading : FileSet → OpenError → Type 0
IsDueToReading files e = IsDueToJournal files e ⊎ ((c : Catalog) × (h : History) × IsReadOf c h files × IsDueToStore files e)

-- where the book of subsystem q in these files differs first from the effects of a history; a file that is no store has no book
abbrev pub difference_of_read : List Effect → ℕ → Result Book StoreError → Option BookFault
difference_of_read es q (Ok b) = book_difference q es b.book b.doubt
difference_of_read es q (Err e) = None

abbrev pub difference_in : List Op → History → FileSet → ℕ → Option BookFault
difference_in ops h files q = difference_of_read (effects ops h q) q (book_in files q)

-- A refusal is due where all nine files were read, and a book differs from the effects of the journal's history; those of the
-- subsystems before it don't.
pub record IsDueToBook (files : FileSet) (e : OpenError) : Type 0 where
  pub catalog : Catalog
  pub history : History
  pub journal : IsReadOf catalog history files
  pub stores : (p : ℕ) → p < 8 → (b : Book) × (book_in files p ≡ Ok b)
  pub subsystem : ℕ
  pub within : subsystem < 8
  pub fault : BookFault
  pub is : e ≡ BookDiffers fault
  pub differs : difference_in catalog.ops history files subsystem ≡ Some fault
  pub earlier : (p : ℕ) → p < subsystem → difference_in catalog.ops history files p ≡ None

-- why files are not opened: a file that is no journal or store, or a book; want of memory and faults of the rack are free here
abbrev pub IsDueToOpening : FileSet → OpenError → Type 0
IsDueToOpening files e = (e ≡ NoMemory) ⊎ IsDueToReading files e ⊎ IsDueToBook files e
