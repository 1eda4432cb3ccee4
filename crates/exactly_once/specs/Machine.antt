-- A driver, the program beside it and a system of the driver's, which may stop at any moment: what may happen to them, one event
-- after another.
--
-- Of the program no more is said than what `serve` promises. It hands out one piece of a process at a time, and in the own order of the
-- process. A piece that went back is never kept. What is kept stays, through each stop, and only what is kept is answered `effected`.
-- So the ways of going on are no events of their own: a process that goes on where it was is handed out its piece again behind
-- `Opens`; one that completes is handed out undos. `Undoes` and `Ends` behind `Stops` are those of a `restart`; the steps that it does
-- behind a pivot have no driver, and are left out. `Turns` begins a generation.
use Rattle.std.specs.Prelude.{ℕ, ◌+◌, Bool, true, false, not, ◌&&◌, ◌||◌, List, [], ◌∷◌, ◌++◌, map, nat_eq, if◌then◌else◌}
use Rattle.std.specs.List.{list_any, list_all}
use Rattle.exactly_once.specs.Names.{Name, Do, Undo, Work, Absent, Prepared, process_of, step_of, is_at, same_name, committed, taken_back, commits_now}
use Rattle.exactly_once.specs.Settling.{Answer, Done, Undone, NotDone, Unknown, NoStep, Action, Nothing, Commit, TakeBack, CommitUndo, TakeBackUndo, CarryOutUndo, StopLost, StopAhead, settle, state_of}

-- How far a piece has come. What the driver asks of its system, to prepare, to commit or to take back, is under way until it lands.
pub data Stage : Type 0 where
  -- handed out, and not begun
  Handed : Stage
  -- its system is asked to prepare it
  Preparing : Stage
  -- it is prepared
  Ready : Stage
  -- `finish` is said, and not answered
  Said : Stage
  -- the files have it, and the answer isn't read yet
  Kept : Stage
  -- its system is asked to commit it, or to take it back
  Committing : Stage
  TakingBack : Stage
  -- a system is asked to prepare an undo that the files already tell
  CarryingOut : Stage

-- A piece of work. A live one is out, and its process hasn't gone back since.
pub record Piece : Type 0 where
  pub name : Name
  pub live : Bool
  pub stage : Stage

-- the program doesn't run; it runs, and hands out nothing before the driver has settled; it hands out pieces
pub data Phase : Type 0 where
  Closed : Phase
  Opened : Phase
  Working : Phase

pub record World : Type 0 where
  -- your system: how far each name's work has come, how often it was committed, and the names of which it ever prepared work
  pub work : Name → Work
  pub times : Name → ℕ
  pub names : List Name
  -- the history that the files tell, also after any crash from now on: its effects, the newest first
  pub kept : List Name
  -- who has ended, in this generation of the files, in the one before, and in those that are forgotten
  pub ended : List ℕ
  pub before : List ℕ
  pub forgotten : List ℕ
  -- a generation has begun that the driver hasn't settled in
  pub turned : Bool
  -- what the program is at, and whether the driver runs
  pub phase : Phase
  pub driver : Bool
  -- the pieces of each process, the oldest first: the driver works on the first alone
  pub pieces : ℕ → List Piece

-- Who runs, and who has ended.

abbrev pub is_closed : Phase → Bool
is_closed Closed = true
is_closed Opened = false
is_closed Working = false

abbrev pub is_opened : Phase → Bool
is_opened Closed = false
is_opened Opened = true
is_opened Working = false

abbrev pub is_working : Phase → Bool
is_working Closed = false
is_working Opened = false
is_working Working = true

abbrev pub is_in : ℕ → List ℕ → Bool
is_in i is = list_any (λ j. nat_eq j i) is

abbrev pub is_over : World → ℕ → Bool
is_over w i = is_in i w.ended || (is_in i w.before || is_in i w.forgotten)

-- What the files tell.

-- an effect makes a step done or undone
abbrev pub made_by : Name → Answer
made_by (Do i b) = Done
made_by (Undo i b) = Undone

-- `done I.STEP`: the newest effect on the step decides
abbrev pub told : List Name → ℕ → ℕ → Answer
told [] i b = NotDone
told (n ∷ ns) i b = if is_at i b n then made_by n else told ns i b

-- Own order: a step is done once, and only what is done and not undone is undone.
abbrev pub may_be_made : Name → Answer → Bool
may_be_made (Do i b) Done = false
may_be_made (Do i b) Undone = false
may_be_made (Do i b) NotDone = true
may_be_made (Do i b) Unknown = false
may_be_made (Do i b) NoStep = false
may_be_made (Undo i b) Done = true
may_be_made (Undo i b) Undone = false
may_be_made (Undo i b) NotDone = false
may_be_made (Undo i b) Unknown = false
may_be_made (Undo i b) NoStep = false

abbrev pub may_follow : List Name → Name → Bool
may_follow kept n = may_be_made n (told kept (process_of n) (step_of n))

-- Changes.

abbrev pub put_work : (Name → Work) → Name → Work → Name → Work
put_work f n x m = if same_name n m then x else f m

abbrev pub put_times : (Name → ℕ) → Name → ℕ → Name → ℕ
put_times f n x m = if same_name n m then x else f m

abbrev pub put_pieces : (ℕ → List Piece) → ℕ → List Piece → ℕ → List Piece
put_pieces f i ps j = if nat_eq i j then ps else f j

abbrev pub with_pieces : World → ℕ → List Piece → World
with_pieces w i ps = record w { pieces = put_pieces w.pieces i ps }

abbrev pub at_stage : Piece → Stage → Piece
at_stage p s = record { name = p.name; live = p.live; stage = s }

-- it is out no longer
abbrev pub over_at : Piece → Stage → Piece
over_at p s = record { name = p.name; live = false; stage = s }

abbrev pub void : Piece → Piece
void p = record { name = p.name; live = false; stage = p.stage }

abbrev pub handed : Name → Piece
handed n = record { name = n; live = true; stage = Handed }

abbrev pub of_settling : Name → Stage → Piece
of_settling n s = record { name = n; live = false; stage = s }

-- The driver's rule.

-- a piece is begun by having its system prepare it
abbrev pub begun : Stage
begun = Preparing

-- once it is prepared, `finish` is said
abbrev pub finished : Stage
finished = Said

-- at `effected` it is committed, at any other answer it is taken back
abbrev pub at_effected : Stage
at_effected = Committing

abbrev pub at_any_other : Stage
at_any_other = TakingBack

-- a start of either side: the program opens the files and hands out nothing yet, the driver ends its former sessions, so what they
-- had under way never lands, and it is to settle before the first `next`
abbrev pub opened_to : Phase
opened_to = Opened

abbrev pub after_opening : World → World
after_opening w = record w { phase = opened_to; driver = true; pieces = λ i. [] }

-- what the settling does about a step: of whom the files have forgotten the driver asks nothing
abbrev pub action : World → ℕ → ℕ → Action
action w i b = if is_in i w.forgotten then Nothing else settle (state_of (w.work (Do i b)) (w.work (Undo i b))) (told w.kept i b)

abbrev pub acting : World → ℕ → ℕ → Action → World
acting w i b Nothing = w
acting w i b Commit = with_pieces w i (of_settling (Do i b) Committing ∷ [])
acting w i b TakeBack = with_pieces w i (of_settling (Do i b) TakingBack ∷ [])
acting w i b CommitUndo = with_pieces w i (of_settling (Undo i b) Committing ∷ [])
acting w i b TakeBackUndo = with_pieces w i (of_settling (Undo i b) TakingBack ∷ [])
acting w i b CarryOutUndo = with_pieces w i (of_settling (Undo i b) CarryingOut ∷ [])
acting w i b StopLost = w
acting w i b StopAhead = w

abbrev pub is_nothing : Action → Bool
is_nothing Nothing = true
is_nothing Commit = false
is_nothing TakeBack = false
is_nothing CommitUndo = false
is_nothing TakeBackUndo = false
is_nothing CarryOutUndo = false
is_nothing StopLost = false
is_nothing StopAhead = false

abbrev pub is_empty : List Piece → Bool
is_empty [] = true
is_empty (p ∷ ps) = false

-- nothing is to be done about the step of this name, and nothing of its process is under way
abbrev pub is_settled : World → Name → Bool
is_settled w n = is_nothing (action w (process_of n) (step_of n)) && is_empty (w.pieces (process_of n))

-- all is settled that the driver finds in its system
abbrev pub all_settled : World → Bool
all_settled w = list_all (is_settled w) w.names

-- What may happen.

pub data Event : Type 0 where
  -- the driver dies
  Dies : Event
  -- the program ends, by itself, by a kill or with the machine
  Stops : Event
  -- a start: see `after_opening`
  Opens : Event
  -- the driver settles one step
  Settles : (process step : ℕ) → Event
  -- it has settled all, and asks for pieces
  GoesOn : Event
  -- The program hands out a piece: a step for the first time, again after a refusal or after a stop, or an undo.
  Hands : (name : Name) → Event
  -- the driver begins the first piece of a process: its system is asked to prepare it
  Begins : (process : ℕ) → Event
  -- its system refuses, and `finish N refused` is said
  Refuses : (process : ℕ) → Event
  -- `finish N done` is said
  Says : (process : ℕ) → Event
  -- the effect of a piece that was said is in the files. A stop in the midst of that write is one before this or one behind it.
  Keeps : (process : ℕ) → Event
  -- the driver reads an answer: `effected` if the effect is in the files, else `failed`, `retry` or `dropped`
  Answers : (process : ℕ) → Event
  -- a process goes back: by an abort, as a victim, or in a cascade
  GoesBack : (process : ℕ) → Event
  -- what the driver's system was asked to do for the first piece of a process is done there
  Lands : (process : ℕ) → Event
  -- a process ends; while `serve` doesn't run, by a `restart`
  Ends : (process : ℕ) → Event
  -- a `restart` undoes a step without the driver
  Undoes : (process step : ℕ) → Event
  -- the next generation of the files begins
  Turns : Event

-- both are there, and pieces are handed out
abbrev pub is_at_work : World → Bool
is_at_work w = w.driver && is_working w.phase

-- A process has one piece out at a time.
abbrev pub may_hand : World → Name → Bool
may_hand w n = is_at_work w && (may_follow w.kept n && (not (is_over w (process_of n)) && not (list_any (λ (p : Piece). p.live) (w.pieces (process_of n)))))

abbrev pub hands : World → Name → World
hands w n =
    if may_hand w n then with_pieces w (process_of n) (w.pieces (process_of n) ++ handed n ∷ []) else w

abbrev pub begins : World → ℕ → Piece → List Piece → Stage → World
begins w i p ps Handed = with_pieces w i (at_stage p begun ∷ ps)
begins w i p ps stage = w

abbrev pub refuses : World → ℕ → List Piece → Stage → World
refuses w i ps Handed = with_pieces w i ps
refuses w i ps Preparing = with_pieces w i ps
refuses w i ps stage = w

abbrev pub says : World → ℕ → Piece → List Piece → Stage → World
says w i p ps Ready = with_pieces w i (at_stage p finished ∷ ps)
says w i p ps stage = w

abbrev pub keeps : World → ℕ → Piece → List Piece → Stage → World
keeps w i p ps Said = if p.live then record (with_pieces w i (over_at p Kept ∷ ps)) { kept = p.name ∷ w.kept } else w
keeps w i p ps stage = w

abbrev pub answers : World → ℕ → Piece → List Piece → Stage → World
answers w i p ps Said = if is_working w.phase then with_pieces w i (over_at p at_any_other ∷ ps) else w
answers w i p ps Kept = with_pieces w i (over_at p at_effected ∷ ps)
answers w i p ps stage = w

abbrev pub lands : World → ℕ → Piece → List Piece → Stage → World
lands w i p ps Preparing =
    record (with_pieces w i (at_stage p Ready ∷ ps)) { work = put_work w.work p.name Prepared; names = p.name ∷ w.names }
lands w i p ps Committing =
    record (with_pieces w i ps) {
      work = put_work w.work p.name (committed (w.work p.name));
      times = put_times w.times p.name (w.times p.name + commits_now (w.work p.name));
    }
lands w i p ps TakingBack = record (with_pieces w i ps) { work = put_work w.work p.name (taken_back (w.work p.name)) }
lands w i p ps CarryingOut = record (with_pieces w i ps) { work = put_work w.work p.name Prepared; names = p.name ∷ w.names }
lands w i p ps stage = w

-- this, for the first piece of a process
abbrev pub of_first : World → (Piece → List Piece → World) → List Piece → World
of_first w f [] = w
of_first w f (p ∷ ps) = f p ps

-- The driver ends a process once it has settled all pieces of it; and a `restart` ends one without the driver.
abbrev pub may_end : World → ℕ → Bool
may_end w i = is_closed w.phase || (is_at_work w && is_empty (w.pieces i))

-- A step that a `restart` may undo: of a process that hasn't ended.
abbrev pub may_undo : World → ℕ → ℕ → Bool
may_undo w i b = is_closed w.phase && (may_follow w.kept (Undo i b) && not (is_over w i))

-- A driver settles between a turn and the one after.
abbrev pub may_turn : World → Bool
may_turn w = is_working w.phase || not w.turned

abbrev pub happens : World → Event → World
happens w Dies = record w { driver = false }
happens w Stops = record w { phase = Closed }
happens w Opens = if is_closed w.phase then after_opening w else w
happens w (Settles i b) = if w.driver && (is_opened w.phase && is_empty (w.pieces i)) then acting w i b (action w i b) else w
happens w GoesOn = if w.driver && (is_opened w.phase && all_settled w) then record w { phase = Working; turned = false } else w
happens w (Hands n) = hands w n
happens w (Begins i) = if is_at_work w then of_first w (λ p ps. begins w i p ps p.stage) (w.pieces i) else w
happens w (Refuses i) = if is_at_work w then of_first w (λ p ps. refuses w i ps p.stage) (w.pieces i) else w
happens w (Says i) = if is_at_work w then of_first w (λ p ps. says w i p ps p.stage) (w.pieces i) else w
happens w (Keeps i) = if is_working w.phase then of_first w (λ p ps. keeps w i p ps p.stage) (w.pieces i) else w
happens w (Answers i) = if w.driver then of_first w (λ p ps. answers w i p ps p.stage) (w.pieces i) else w
happens w (GoesBack i) = if is_working w.phase then with_pieces w i (map void (w.pieces i)) else w
happens w (Lands i) = of_first w (λ p ps. lands w i p ps p.stage) (w.pieces i)
happens w (Ends i) = if may_end w i then record w { ended = i ∷ w.ended } else w
happens w (Undoes i b) = if may_undo w i b then record w { kept = Undo i b ∷ w.kept } else w
happens w Turns =
    if may_turn w then record w { ended = []; before = w.ended; forgotten = w.before ++ w.forgotten; turned = not (is_working w.phase) } else w

-- events one after another
abbrev pub run : List Event → World → World
run [] w = w
run (e ∷ es) w = run es (happens w e)

-- fresh files, and a system that has nothing under their mark
abbrev pub start : World
start = record {
  work = λ n. Absent;
  times = λ n. 0;
  names = [];
  kept = [];
  ended = [];
  before = [];
  forgotten = [];
  turned = false;
  phase = Closed;
  driver = false;
  pieces = λ i. [];
}
