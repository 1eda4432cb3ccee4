-- What an open journal stands for, on a disk that tells.
use Rattle.std.specs.Prelude.{◌≡◌, ◌⊎◌, List, [], length, map}
use Rattle.process_disk.specs.Disk.{Disk, FileSet}
use Rattle.gate_log.specs.Standing.{LogState, Logs, StandsFor}
use Rattle.schedule_model.specs.declared.history.History.{History}
use Rattle.commute_table.specs.declared.catalog.Catalog.{Catalog}
use Rattle.journal_records.specs.declared.record.Record.{Record}
use Rattle.journal_records.specs.Bytes.{bytes_of}
use Rattle.process_journal.specs.Bodies.{journal_bodies}
use Rattle.process_journal.specs.Journals.{IsHistoryUnder, IsMadeBy, AreMadeBy}

-- file 0 of the set is the journal of this catalog and history
abbrev pub IsJournalOf : Catalog → History → FileSet → Type 0
IsJournalOf c h files = Logs 0 (journal_bodies c h) files

-- or of one of two histories
abbrev pub IsJournalOfEither : Catalog → History → History → FileSet → Type 0
IsJournalOfEither c one two files = IsJournalOf c one files ⊎ IsJournalOf c two files

-- The journal stands for this history, which one of this catalog may have: file 0 is the journal of it, and so is each image
-- of that file from now on.
pub record Stands (journal : LogState) (c : Catalog) (h : History) (disk : Disk) : Type 0 where
  pub history : IsHistoryUnder c h
  pub log : StandsFor journal (journal_bodies c h) disk

-- The journal stands for a history of which this record makes one that the journal may have.
pub record GoesOn (journal : LogState) (r : Record) (disk : Disk) : Type 0 where
  pub catalog : Catalog
  pub before : History
  pub after : History
  pub stands : Stands journal catalog before disk
  pub made : IsMadeBy catalog r before after
  pub may : IsHistoryUnder catalog after

-- The journal stands for a history of which the records that are staged make one that the journal may have.
pub record GoesOnStaged (journal : LogState) (disk : Disk) : Type 0 where
  pub catalog : Catalog
  pub before : History
  pub after : History
  pub stands : Stands journal catalog before disk
  pub records : List Record
  pub staged : journal.staged ≡ map bytes_of records
  pub made : AreMadeBy catalog records before after

-- A journal as it is made or opened: file 0 with the records of this catalog and history, and nothing staged.
pub record IsFreshJournal (c : Catalog) (h : History) (journal : LogState) : Type 0 where
  pub file : journal.file ≡ 0
  pub count : journal.count ≡ length (journal_bodies c h)
  pub unstaged : journal.staged ≡ []
