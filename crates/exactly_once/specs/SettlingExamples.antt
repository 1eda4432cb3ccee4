-- The whole table of the settling, computed. The client libraries are tested against the same rows: `clients/tests/rows.py` writes this
-- file from their table.
use Rattle.std.specs.Prelude.{◌≡◌, refl}
use Rattle.exactly_once.specs.Settling.{CarryOutUndo, Commit, CommitUndo, Done, NoStep, NoWork, NotDone, Nothing, StepCommitted, StepPrepared, StopAhead, StopLost, TakeBack, TakeBackUndo, UndoCommitted, UndoPrepared, Undone, Unknown, settle}

pub absent_done : settle NoWork Done ≡ StopLost
absent_done = refl

pub absent_undone : settle NoWork Undone ≡ Nothing
absent_undone = refl

pub absent_not_done : settle NoWork NotDone ≡ Nothing
absent_not_done = refl

pub absent_unknown : settle NoWork Unknown ≡ Nothing
absent_unknown = refl

pub absent_no_step : settle NoWork NoStep ≡ Nothing
absent_no_step = refl

pub prepared_done : settle StepPrepared Done ≡ Commit
prepared_done = refl

pub prepared_undone : settle StepPrepared Undone ≡ TakeBack
prepared_undone = refl

pub prepared_not_done : settle StepPrepared NotDone ≡ TakeBack
prepared_not_done = refl

pub prepared_unknown : settle StepPrepared Unknown ≡ StopAhead
prepared_unknown = refl

pub prepared_no_step : settle StepPrepared NoStep ≡ StopAhead
prepared_no_step = refl

pub committed_done : settle StepCommitted Done ≡ Nothing
committed_done = refl

pub committed_undone : settle StepCommitted Undone ≡ CarryOutUndo
committed_undone = refl

pub committed_not_done : settle StepCommitted NotDone ≡ StopAhead
committed_not_done = refl

pub committed_unknown : settle StepCommitted Unknown ≡ StopAhead
committed_unknown = refl

pub committed_no_step : settle StepCommitted NoStep ≡ StopAhead
committed_no_step = refl

pub undo_prepared_done : settle UndoPrepared Done ≡ TakeBackUndo
undo_prepared_done = refl

pub undo_prepared_undone : settle UndoPrepared Undone ≡ CommitUndo
undo_prepared_undone = refl

pub undo_prepared_not_done : settle UndoPrepared NotDone ≡ StopAhead
undo_prepared_not_done = refl

pub undo_prepared_unknown : settle UndoPrepared Unknown ≡ StopAhead
undo_prepared_unknown = refl

pub undo_prepared_no_step : settle UndoPrepared NoStep ≡ StopAhead
undo_prepared_no_step = refl

pub undone_done : settle UndoCommitted Done ≡ StopAhead
undone_done = refl

pub undone_undone : settle UndoCommitted Undone ≡ Nothing
undone_undone = refl

pub undone_not_done : settle UndoCommitted NotDone ≡ StopAhead
undone_not_done = refl

pub undone_unknown : settle UndoCommitted Unknown ≡ StopAhead
undone_unknown = refl

pub undone_no_step : settle UndoCommitted NoStep ≡ StopAhead
undone_no_step = refl
