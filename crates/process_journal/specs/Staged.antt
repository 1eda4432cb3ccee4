-- What a journal is while records are staged in it.
use Rattle.process_disk.specs.Disk.{Disk}
use Rattle.gate_log.specs.Standing.{LogState}
use Rattle.gate_log.specs.Staging.{AreOnDisk, AreWritten, IsOpened}
use Rattle.schedule_model.specs.declared.history.History.{History}
use Rattle.commute_table.specs.declared.catalog.Catalog.{Catalog}
use Rattle.process_journal.specs.Bodies.{journal_bodies}
use Rattle.process_journal.specs.Journals.{IsHistoryUnder}

-- The records are written behind the closed gate of file 0; the journal still stands for its history.
pub record IsWritten (journal : LogState) (c : Catalog) (h : History) (disk : Disk) : Type 0 where
  pub history : IsHistoryUnder c h
  pub log : AreWritten journal (journal_bodies c h) disk

-- They are on the disk there.
pub record IsOnDisk (journal : LogState) (c : Catalog) (h : History) (disk : Disk) : Type 0 where
  pub history : IsHistoryUnder c h
  pub log : AreOnDisk journal (journal_bodies c h) disk

-- Their gate is open, which a crash may still undo.
pub record HasOpened (journal : LogState) (c : Catalog) (h : History) (disk : Disk) : Type 0 where
  pub history : IsHistoryUnder c h
  pub log : IsOpened journal (journal_bodies c h) disk
