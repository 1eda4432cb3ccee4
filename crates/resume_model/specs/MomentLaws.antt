-- What holds at each moment of a session that opens at a sound moment, as statements.
use Rattle.std.specs.Prelude.{◌≡◌, ◌≢◌, ◌⊎◌, ◌↔◌, ◌≤◌, ℕ, true, false, List, [], ◌∷◌, ◌++◌, filter, length, nat_eq, Some, None, IsTrue}
use Rattle.std.specs.List.{Contains, sum_by}
use Rattle.process_tree.specs.declared.entry.Entry.{Entry}
use Rattle.process_tree.specs.declared.plan.Plan.{Plan}
use Rattle.process_tree.specs.Recovery.{reserved}
use Rattle.schedule_model.specs.declared.event.Event.{Event}
use Rattle.schedule_model.specs.Course.{Course, course_of, courses_of}
use Rattle.schedule_model.specs.Conflict.{ConflictRelation, IsSymmetric, conflict}
use Rattle.schedule_model.specs.Completion.{completion}
use Rattle.schedule_model.specs.Histories.{active, is_active, net, starts}
use Rattle.schedule_model.specs.Holdings.{behind, reaches}
use Rattle.schedule_model.specs.Laws.{IsGoodPlan}
use Rattle.schedule_model.specs.Legal.{class_in, is_legal}
use Rattle.schedule_model.specs.Limits.{is_within_limits}
use Rattle.schedule_model.specs.OwnOrder.{keeps_order}
use Rattle.schedule_model.specs.Recovery.{backward_entries}
use Rattle.machine_model.specs.declared.blocked.Blocked.{Blocked}
use Rattle.machine_model.specs.declared.blocked.Rule.TheVariants.{A5}
use Rattle.machine_model.specs.declared.kept.Work.TheVariants.{Forward, Undo, End}
use Rattle.machine_model.specs.Moment.{Moment}
use Rattle.machine_model.specs.Pieces.{hands}
use Rattle.machine_model.specs.State.{block_of, holdings, is_exhausted, is_pending, next_of, pending_of, undo_next}
use Rattle.machine_model.specs.Advance.{advance_all, event_by}
use Rattle.machine_model.specs.Calls.{IsNoStart, Call, answer_next, next_is, start}
use Rattle.machine_model.specs.CallLaws.{IsStuck}
use Rattle.machine_model.specs.Laws.{AllHaveBegun, next_in_restart, pieces_for}
use Rattle.machine_model.specs.Groups.{flush_kept}
use Rattle.machine_model.specs.Replies.{all_victims, stuck}
use Rattle.resume_model.specs.Openings.{on_history, restarting}
use Rattle.resume_model.specs.Resumed.{IsResumed, Resumed, after_answer, answer_of, now_of}
use Rattle.resume_model.specs.Sound.{is_sound}

-- at a moment over these courses
pub record LawsAt (table : ConflictRelation) (courses : List Course) (m : Moment) : Type 0 where
  -- the history is legal, and within the limits
  pub legal : IsTrue (is_legal table courses m.events)
  pub within : IsTrue (is_within_limits courses m.events)
  -- the next piece of an active process keeps own order
  pub next_keeps : (i : ℕ) → IsTrue (is_active m.events i)
      → IsTrue (keeps_order courses m.events (event_by courses i (next_of courses m i).step (next_of courses m i).work))
  -- the conflict graph has no circle
  pub no_circle : (i : ℕ) → reaches table (holdings courses m) i i ≡ false
  -- an undo is blocked by A5 alone
  pub undo_by_rule : (i : ℕ) (b : Blocked) → (next_of courses m i).work ≡ Undo → block_of table courses m i ≡ Some b → b.rule ≡ A5
  -- a step that its process owes is never blocked
  pub owed_is_free : (i : ℕ) → IsTrue (is_active m.events i) → (next_of courses m i).work ≡ Forward
      → class_in courses m.events i (next_of courses m i).step ≡ reserved → block_of table courses m i ≡ None
  -- nor is the end of a process that has nothing left to undo
  pub end_is_free : (i : ℕ) → IsTrue (is_active m.events i) → (next_of courses m i).work ≡ End
      → backward_entries courses m.events i ≡ [] → block_of table courses m i ≡ None
  -- what stands behind a pending entry and conflicts with it is pending
  pub pending_is_closed : (x e : Entry) → IsTrue (is_active m.events x.process) → Contains (pending_of courses m x.process) x
      → Contains (behind x (net m.events)) e → conflict table x e ≡ true → IsTrue (is_pending courses m e)
  -- so the undo of the last pending entry in joint order is never blocked
  pub last_pending_is_free : (i : ℕ) → undo_next courses m ≡ Some i → block_of table courses m i ≡ None
  -- once all have begun to complete, the next event is the head of the completion, and whoever comes next is never blocked
  pub follows_completion : AllHaveBegun m → (i : ℕ) → next_in_restart courses m ≡ Some i
      → (rest : List Event)
      × (completion courses m.events ≡ event_by courses i (next_of courses m i).step (next_of courses m i).work ∷ rest)
  pub turn_is_free : AllHaveBegun m → (i : ℕ) → next_in_restart courses m ≡ Some i → block_of table courses m i ≡ None
  -- a request for any piece answers that one is stuck exactly where it is so after the victims that it makes, and never where no
  -- process is exhausted
  pub stuck_is_exact : (served i : ℕ) → ((answer_next table courses m served).reply ≡ next_is (stuck i))
      ↔ IsStuck table courses (advance_all table courses m (all_victims table courses m)) i
  pub goes_on : ((i : ℕ) → IsTrue (is_active m.events i) → is_exhausted courses m i ≡ false)
      → (served k : ℕ) → (answer_next table courses m served).reply ≢ next_is (stuck k)
  -- no more pieces were handed out since the opening than the processes of the history can take
  pub few_hands : length (hands m.kept) ≤ sum_by (pieces_for courses) (starts m.events)

-- They hold at each moment of a session.
abbrev pub MomentLawsHold : Type 0
MomentLawsHold = (table : ConflictRelation) (plans : List Plan) (s : Resumed) → IsResumed table plans s
    → LawsAt table (courses_of plans) (now_of table s)

-- What a call other than a start keeps makes a longer session.
abbrev pub CallsKeepSessions : Type 0
CallsKeepSessions = (table : ConflictRelation) (plans : List Plan) (s : Resumed) → IsResumed table plans s → (c : Call) → IsNoStart c
    → IsResumed table plans (after_answer s (answer_of table s c))

-- A start keeps nothing, or makes a longer session with its plan.
abbrev pub StartsKeepSessions : Type 0
StartsKeepSessions = (table : ConflictRelation) (plans : List Plan) (s : Resumed) → IsResumed table plans s → (p : Plan) → IsGoodPlan p
    → let a = answer_of table s (start (course_of p)) in IsResumed table (plans ++ p ∷ []) (after_answer s a) ⊎ (a.kept ≡ [])

-- What a flush keeps makes a longer session, where each piece stands in the group once.
abbrev pub FlushesKeepSessions : Type 0
FlushesKeepSessions = (table : ConflictRelation) (plans : List Plan) (s : Resumed) → IsResumed table plans s → (group : List ℕ)
    → ((n : ℕ) → length (filter (nat_eq n) group) ≤ 1)
    → IsResumed table plans
    (record { opening = s.opening; courses = s.courses; kept = s.kept ++ flush_kept (now_of table s) group; served = s.served })

-- An opening on a legal history within the limits is sound where nobody is active, and where all that are active complete.
abbrev pub RestIsSound : Type 0
RestIsSound = (table : ConflictRelation) (plans : List Plan) (h : List Event) → IsSymmetric table
    → ((p : Plan) → Contains plans p → IsGoodPlan p) → IsTrue (is_legal table (courses_of plans) h)
    → IsTrue (is_within_limits (courses_of plans) h)
    → (active h ≡ [] → IsTrue (is_sound table (courses_of plans) (on_history h)))
    × IsTrue (is_sound table (courses_of plans) (restarting h))
