-- Settling: what becomes of the work that a stop left in a system of yours, by what the files tell of it.
use Rattle.exactly_once.specs.Names.{Work, Absent, Prepared, Committed}

-- how far a step has come in its system: each state follows on the one before
pub data State : Type 0 where
  NoWork : State
  StepPrepared : State
  StepCommitted : State
  UndoPrepared : State
  UndoCommitted : State

-- what the program answers to `done I.STEP`
pub data Answer : Type 0 where
  Done : Answer
  Undone : Answer
  NotDone : Answer
  Unknown : Answer
  NoStep : Answer

-- what to do about it; at the last two a person has to decide
pub data Action : Type 0 where
  Nothing : Action
  Commit : Action
  TakeBack : Action
  CommitUndo : Action
  TakeBackUndo : Action
  CarryOutUndo : Action
  StopLost : Action
  StopAhead : Action

-- The driver's rule after each start.
abbrev pub settle : State → Answer → Action
settle NoWork Done = StopLost
settle NoWork Undone = Nothing
settle NoWork NotDone = Nothing
settle NoWork Unknown = Nothing
settle NoWork NoStep = Nothing
settle StepPrepared Done = Commit
settle StepPrepared Undone = TakeBack
settle StepPrepared NotDone = TakeBack
settle StepPrepared Unknown = StopAhead
settle StepPrepared NoStep = StopAhead
settle StepCommitted Done = Nothing
settle StepCommitted Undone = CarryOutUndo
settle StepCommitted NotDone = StopAhead
settle StepCommitted Unknown = StopAhead
settle StepCommitted NoStep = StopAhead
settle UndoPrepared Done = TakeBackUndo
settle UndoPrepared Undone = CommitUndo
settle UndoPrepared NotDone = StopAhead
settle UndoPrepared Unknown = StopAhead
settle UndoPrepared NoStep = StopAhead
settle UndoCommitted Done = StopAhead
settle UndoCommitted Undone = Nothing
settle UndoCommitted NotDone = StopAhead
settle UndoCommitted Unknown = StopAhead
settle UndoCommitted NoStep = StopAhead

-- the state of a step, by the work of `I.STEP` and that of `I.STEP undo`
abbrev pub state_of : Work → Work → State
state_of s Committed = UndoCommitted
state_of s Prepared = UndoPrepared
state_of Committed Absent = StepCommitted
state_of Prepared Absent = StepPrepared
state_of Absent Absent = NoWork
