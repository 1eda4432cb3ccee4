-- Machines that open at a moment: the moment to which one has come, the sessions in which each kept event might be kept, and what
-- a stop leaves of them.
use Rattle.std.specs.Prelude.{◌≡◌, ℕ, Bool, List, [], ◌∷◌, ◌++◌, filter, map, length, IsTrue}
use Rattle.std.specs.List.{Contains}
use Rattle.process_tree.specs.declared.plan.Plan.{Plan}
use Rattle.schedule_model.specs.Course.{Course, courses_of, shape}
use Rattle.schedule_model.specs.Conflict.{ConflictRelation, IsSymmetric}
use Rattle.schedule_model.specs.Histories.{starts}
use Rattle.schedule_model.specs.Laws.{IsGoodPlan}
use Rattle.machine_model.specs.declared.kept.Kept.{Kept}
use Rattle.machine_model.specs.Progress.{is_only_try}
use Rattle.machine_model.specs.Moment.{Beginning, Moment, Piece, RefusedStep}
use Rattle.machine_model.specs.Pieces.{refused_pieces}
use Rattle.machine_model.specs.Advance.{Machine, advance_all}
use Rattle.machine_model.specs.Runs.{goes_on_from}
use Rattle.machine_model.specs.Calls.{Answer, Call, Reply, answer_at}
use Rattle.resume_model.specs.Openings.{Begun, Opening, on_history, opened}
use Rattle.resume_model.specs.Sound.{is_sound}

-- a state of such a machine
pub record Resumed : Type 0 where
  pub opening : Opening
  -- the course of each process, those of the opening first
  pub courses : List Course
  -- the events kept since the opening
  pub kept : List Kept
  -- the process to which a piece was last handed in rotation, and 0 at first
  pub served : ℕ

-- the moment to which it has come
abbrev pub now_of : ConflictRelation → Resumed → Moment
now_of table s = advance_all table s.courses (opened s.opening) s.kept

-- it is a run where each of its events may be kept after those before it
abbrev pub is_run_of : ConflictRelation → Resumed → Bool
is_run_of table s = goes_on_from table s.courses (opened s.opening) s.kept

-- the answer to a call
abbrev pub answer_of : ConflictRelation → Resumed → Call → Answer
answer_of table s c = answer_at table s.courses (now_of table s) s.served c

-- the machine after an answer
abbrev pub after_answer : Resumed → Answer → Resumed
after_answer s a = record { opening = s.opening; courses = s.courses ++ a.courses; kept = s.kept ++ a.kept; served = a.served }

-- such a machine after some calls, and what was replied in turn
pub record ResumedSession : Type 0 where
  pub machine : Resumed
  pub replies : List Reply

-- a session goes on with these calls, one after another
abbrev pub called_on : ConflictRelation → ResumedSession → List Call → ResumedSession
called_on table s [] = s
called_on table s (c ∷ cs) =
    let a = answer_of table s.machine c in
    called_on table (record { machine = after_answer s.machine a; replies = s.replies ++ a.reply ∷ [] }) cs

-- a session that opens at this moment
abbrev pub session_on : ConflictRelation → List Course → Opening → List Call → ResumedSession
session_on table courses o cs =
    called_on table (record { machine = record { opening = o; courses = courses; kept = []; served = 0 }; replies = [] }) cs

-- a machine that opened on a history
abbrev pub of_machine : Machine → Resumed
of_machine s = record { opening = on_history s.opening; courses = s.courses; kept = s.kept; served = s.served }

-- a run over good plans that opens at a sound moment
pub record IsResumed (table : ConflictRelation) (plans : List Plan) (s : Resumed) : Type 0 where
  pub symmetric : IsSymmetric table
  pub good : (p : Plan) → Contains plans p → IsGoodPlan p
  pub courses : s.courses ≡ courses_of plans
  pub one_each : length plans ≡ length (starts (now_of table s).events)
  pub sound : IsTrue (is_sound table s.courses s.opening)
  pub run : IsTrue (is_run_of table s)

-- why a process began
abbrev pub begun_of : Beginning → Begun
begun_of b = record { process = b.process; cause = b.began.cause }

-- the piece was the one try of its step
abbrev pub was_only_try : List Course → Piece → Bool
was_only_try courses p = is_only_try (shape courses p.process) p.step p.work

-- the step of a piece
abbrev pub step_of : Piece → RefusedStep
step_of p = record { process = p.process; step = p.step }

-- the steps that aren't tried again: those of the opening, and those whose one try was refused since
abbrev pub refused_for_good : List Course → Moment → List RefusedStep
refused_for_good courses m = m.refused ++ map step_of (filter (was_only_try courses) (refused_pieces m.kept))

-- the opening that a stop at this moment leaves: the history, the beginnings with their causes, and the steps refused for good;
-- which pieces were out, and how often the others were refused, is gone
abbrev pub stopped : List Course → Moment → Opening
stopped courses m = record { history = m.events; begun = map begun_of m.beginnings; refused = refused_for_good courses m }

-- the machine that goes on after a stop
abbrev pub resumed : ConflictRelation → Resumed → Resumed
resumed table s = record { opening = stopped s.courses (now_of table s); courses = s.courses; kept = []; served = 0 }
