-- What a sync makes of a journal whose records are written or opened.
use Rattle.std.proofs.Common.{◌≡◌, ◌≤◌, List, map, subst}
use Rattle.process_disk.specs.Disk.{Disk, IsHonest, Only}
use Rattle.process_disk.specs.Images.{AllAsBefore, EachImage}
use Rattle.process_disk.proofs.Images.{each_then}
use Rattle.gate_log.specs.Staging.{with_staged}
use Rattle.gate_log.specs.Standing.{LogState, StandsFor}
use Rattle.gate_log.proofs.StagedImages.{each_still, staged_on_disk, staged_stands}
use Rattle.schedule_model.specs.declared.history.History.{History}
use Rattle.commute_table.specs.declared.catalog.Catalog.{Catalog}
use Rattle.journal_records.specs.Bytes.{bytes_of}
use Rattle.journal_records.specs.declared.record.Record.{Record}
use Rattle.process_journal.specs.Bodies.{journal_bodies}
use Rattle.process_journal.specs.Journals.{AreMadeBy}
use Rattle.process_journal.specs.Opened.{IsJournalOfEither, Stands}
use Rattle.process_journal.specs.Staged.{HasOpened, IsOnDisk, IsWritten}
use Rattle.process_journal.proofs.Appending.{all_bodies, images_appended_all}
use Rattle.process_journal.proofs.BodiesPushed.{are_good}

module _ (log : LogState) (c : Catalog) (h : History) (old new : Disk) (honest : IsHonest new) (run : AllAsBefore old new) (only : Only new.files new.may_leave) where
  -- what is written is on the disk,
  pub records_on_disk : IsWritten log c h old → IsOnDisk log c h new
  records_on_disk is = record { history = is.history; log = staged_on_disk log (journal_bodies c h) old new honest run only is.log }

  -- and behind an opened gate the journal stands for the history with the records
  pub records_stand : (rs : List Record) (after : History) → HasOpened log c h old → log.staged ≡ map bytes_of rs → AreMadeBy c rs h after → Stands (with_staged log) c after new
  records_stand rs after is are made = record {
    history = are_good c rs h after is.history made;
    log = subst (λ bs. StandsFor (with_staged log) bs new) (all_bodies c rs h after log.staged is.history are made) (staged_stands log (journal_bodies c h) old new honest run only is.log);
  }

-- Each image from an opened gate on, over a run that leaves all as it was too, is of the history before or with the records.
pub images_of_opened : (log : LogState) (c : Catalog) (h after : History) (rs : List Record) (start mid new : Disk) → IsHonest mid → start.moment ≤ mid.moment → AllAsBefore mid new → log.file ≡ 0 → HasOpened log c h mid
    → log.staged ≡ map bytes_of rs → AreMadeBy c rs h after → EachImage mid start.moment (IsJournalOfEither c h after) → EachImage new start.moment (IsJournalOfEither c h after)
images_of_opened log c h after rs start mid new honest later run zero is are made before =
    each_then mid new start.moment (IsJournalOfEither c h after) later run.follow before
    (each_still (IsJournalOfEither c h after) mid new honest run (images_appended_all c rs h after log.staged log.file mid mid.moment is.history are made zero is.log.each))
