-- The laws of stops, as statements: a stop takes nothing back.
use Rattle.std.specs.Prelude.{◌≡◌, ℕ, List, [], Option, None, option_map}
use Rattle.process_tree.specs.declared.plan.Plan.{Plan}
use Rattle.schedule_model.specs.Course.{Course}
use Rattle.schedule_model.specs.Conflict.{ConflictRelation}
use Rattle.schedule_model.specs.Recovery.{backward_entries, owed}
use Rattle.machine_model.specs.declared.began.Cause.{Cause}
use Rattle.machine_model.specs.declared.kept.Work.{Work}
use Rattle.machine_model.specs.Moment.{Moment, beginning_of}
use Rattle.machine_model.specs.Pieces.{refusals}
use Rattle.machine_model.specs.State.{block_of, hold_of, next_of, pending_of, progress, refused_steps}
use Rattle.resume_model.specs.Openings.{opened}
use Rattle.resume_model.specs.Resumed.{IsResumed, Resumed, now_of, resumed, stopped}

-- why process i has begun to complete, if it has
abbrev pub cause_of : Moment → ℕ → Option Cause
cause_of m i = option_map (λ b. b.began.cause) (beginning_of m i)

-- a moment is another one but for the pieces that were out and for how often each was refused
pub record GoesOnFrom (courses : List Course) (before after : Moment) : Type 0 where
  -- the history is the same
  pub events : after.events ≡ before.events
  -- nothing runs, and nothing was kept
  pub nothing_runs : after.out ≡ []
  pub nothing_kept : after.kept ≡ []
  -- each process has come as far, and has begun to complete or not, for the same cause
  pub progress : (i : ℕ) → progress courses after i ≡ progress courses before i
  pub cause : (i : ℕ) → cause_of after i ≡ cause_of before i
  -- so it has the same to do next, and the same to undo
  pub next : (i : ℕ) → next_of courses after i ≡ next_of courses before i
  pub pending : (i : ℕ) → pending_of courses after i ≡ pending_of courses before i
  -- it holds the same, but for what ran
  pub holds : (i : ℕ) → hold_of courses after i ≡ record {
    process = i;
    running = None;
    reserved = owed courses before.events i;
    pending = pending_of courses before i;
    backward_entries = backward_entries courses before.events i;
  }
  -- a step that was refused for good isn't tried again, and of all else the tries are given anew
  pub refused : (i : ℕ) → refused_steps courses after i ≡ refused_steps courses before i
  pub untried : (i b : ℕ) (w : Work) → refusals after.kept i b w ≡ 0

-- A stop takes nothing back: wherever a session stops, the machine that opens on what it leaves goes on from that moment, which is
-- sound.
abbrev pub StopsResume : Type 0
StopsResume = (table : ConflictRelation) (plans : List Plan) (s : Resumed) → IsResumed table plans s
    → IsResumed table plans (resumed table s) × GoesOnFrom s.courses (now_of table s) (opened (stopped s.courses (now_of table s)))

-- A stop blocks nobody: a process that nothing stood against may go on behind it.
abbrev pub StopsBlockNobody : Type 0
StopsBlockNobody = (table : ConflictRelation) (courses : List Course) (m : Moment) (i : ℕ) → block_of table courses m i ≡ None
    → block_of table courses (opened (stopped courses m)) i ≡ None
