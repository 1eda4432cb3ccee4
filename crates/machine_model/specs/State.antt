-- What follows of each process from a moment: how it stands, what it holds, and whether it is free, blocked or exhausted.
use Rattle.std.specs.Prelude.{ℕ, Bool, not, ◌&&◌, ◌||◌, List, [], ◌++◌, filter, map, drop, length, nat_eq, if◌then◌else◌, Option}
use Rattle.std.specs.Prelude.{Some, None, is_some, is_none}
use Rattle.std.specs.List.{list_any, list_all}
use Rattle.process_tree.specs.declared.entry.Entry.{Entry}
use Rattle.process_tree.specs.Shape.{greatest, last_of}
use Rattle.process_tree.specs.Recovery.{StepClass, reserved, committing, undoable}
use Rattle.schedule_model.specs.declared.event.Event.{Event}
use Rattle.schedule_model.specs.Course.{Course, course, shape}
use Rattle.schedule_model.specs.Conflict.{ConflictRelation}
use Rattle.schedule_model.specs.Histories.{active, is_active, net, net_of, net_steps, done_steps, doing, undoing, same_step}
use Rattle.schedule_model.specs.Recovery.{owed, owed_after, backward_entries}
use Rattle.schedule_model.specs.Holdings.{Hold, Holdings}
use Rattle.schedule_model.specs.Blocking.{Clashes, against_step, against_undo, against_end}
use Rattle.schedule_model.specs.Legal.{class_in}
use Rattle.machine_model.specs.declared.blocked.Blocked.{Blocked}
use Rattle.machine_model.specs.declared.kept.Work.{Work}
use Rattle.machine_model.specs.declared.kept.Work.TheVariants.{Forward, Undo, End}
use Rattle.machine_model.specs.Blocks.{blocks_of, least_block}
use Rattle.machine_model.specs.Progress.{Progress, Task, above, is_only_try, staying, next_task}
use Rattle.machine_model.specs.ProcessState.{ProcessState, tries_in, has_used_up}
use Rattle.machine_model.specs.Moment.{Moment, Piece, has_begun}
use Rattle.machine_model.specs.Pieces.{refused_pieces, refusals, running_of}

-- the steps of process i that were refused before the opening and aren't tried again
abbrev pub refused_before : Moment → ℕ → List ℕ
refused_before m i = map (λ r. r.step) (filter (λ r. nat_eq r.process i) m.refused)

-- the steps of process i that can be refused and were, before the opening and since
abbrev pub refused_steps : List Course → Moment → ℕ → List ℕ
refused_steps courses m i =
    refused_before m i
    ++ map (λ p. p.step) (filter (λ p. nat_eq p.process i && is_only_try (shape courses i) p.step p.work) (refused_pieces m.kept))

-- how far process i has come; processes count from 1, and 0 would be taken for the first
abbrev pub progress : List Course → Moment → ℕ → Progress
progress courses m i = record {
  shape = shape courses i;
  net = net_steps m.events i;
  onward = above (done_steps m.events i ++ refused_steps courses m i);
  begun = has_begun m i;
}

-- what process i does next
abbrev pub next_of : List Course → Moment → ℕ → Task
next_of courses m i = next_task (progress courses m i)

-- what process i has to undo, in joint order
abbrev pub pending_of : List Course → Moment → ℕ → List Entry
pending_of courses m i = drop (staying (progress courses m i)) (net_of m.events i)

-- the entry of step b of process i, or of its undo; an end has none
abbrev pub entry_by : List Course → ℕ → ℕ → Work → Option Entry
entry_by courses i b Forward = Some (doing courses i b)
entry_by courses i b Undo = Some (undoing (doing courses i b))
entry_by courses i b End = None

-- the entry of a running piece, if there is one
abbrev pub entry_of : List Course → Option Piece → Option Entry
entry_of courses None = None
entry_of courses (Some p) = entry_by courses p.process p.step p.work

-- what a step of this class makes its process owe: only a new commit point makes it owe anew
abbrev pub owed_by_class : StepClass → List Entry → List Entry
owed_by_class reserved owed = []
owed_by_class undoable owed = []
owed_by_class committing owed = owed

-- what step b of process i makes it owe; an undo and an end make it owe nothing
abbrev pub owed_by_work : List Course → List Event → ℕ → ℕ → Work → List Entry
owed_by_work courses h i b Forward = owed_by_class (class_in courses h i b) (owed_after courses h i b)
owed_by_work courses h i b Undo = []
owed_by_work courses h i b End = []

-- what a running piece makes its process owe
abbrev pub owed_soon : List Course → List Event → Option Piece → List Entry
owed_soon courses h None = []
owed_soon courses h (Some p) = owed_by_work courses h p.process p.step p.work

-- what process i holds
abbrev pub hold_of : List Course → Moment → ℕ → Hold
hold_of courses m i = record {
  process = i;
  running = entry_of courses (running_of m i);
  reserved = owed courses m.events i ++ owed_soon courses m.events (running_of m i);
  pending = pending_of courses m i;
  backward_entries = backward_entries courses m.events i;
}

-- what all active processes hold
abbrev pub holdings : List Course → Moment → Holdings
holdings courses m = record { net = net m.events; holds = map (hold_of courses m) (active m.events) }

-- what stands against step b of process i, against its undo, or against the end of the process
abbrev pub against_work : ConflictRelation → List Course → Holdings → List Event → ℕ → ℕ → Work → Clashes
against_work table courses g h i b Forward =
    against_step table g (class_in courses h i b) (doing courses i b) (owed_after courses h i b)
against_work table courses g h i b Undo = against_undo table g (doing courses i b)
against_work table courses g h i b End = against_end table g i

-- what stands against a task of process i
abbrev pub against_task : ConflictRelation → List Course → Moment → ℕ → Task → Clashes
against_task table courses m i t = against_work table courses (holdings courses m) m.events i t.step t.work

-- what blocks the next piece of process i
abbrev pub block_of : ConflictRelation → List Course → Moment → ℕ → Option Blocked
block_of table courses m i = least_block (blocks_of (against_task table courses m i (next_of courses m i)))

-- how often step b of process i may be tried, or its undo; of a step that can be refused and of an end nothing is said
abbrev pub tries_by : List Course → ℕ → ℕ → Work → Option ℕ
tries_by courses i b work = tries_in (course courses i) b work

-- the same of a task
abbrev pub tries_of : List Course → ℕ → Task → Option ℕ
tries_of courses i t = tries_by courses i t.step t.work

-- how often it was refused
abbrev pub tried : Moment → ℕ → Task → ℕ
tried m i t = refusals m.kept i t.step t.work

-- process i alone
abbrev pub process_state : List Course → Moment → ℕ → ProcessState
process_state courses m i = record { progress = progress courses m i; refused = tried m i (next_of courses m i) }

-- process i is exhausted while its next piece has been refused as often as it may be tried
abbrev pub is_exhausted : List Course → Moment → ℕ → Bool
is_exhausted courses m i = has_used_up (course courses i) (process_state courses m i)

-- an active process that isn't exhausted is blocked where something stands against its next piece
abbrev pub is_blocked : ConflictRelation → List Course → Moment → ℕ → Bool
is_blocked table courses m i = not (is_exhausted courses m i) && is_some (block_of table courses m i)

-- an active process is free where it has no running piece and is neither exhausted nor blocked
abbrev pub is_free : ConflictRelation → List Course → Moment → ℕ → Bool
is_free table courses m i =
    is_active m.events i && is_none (running_of m i) && not (is_exhausted courses m i) && is_none (block_of table courses m i)

-- nothing runs, and each active process is blocked or exhausted
abbrev pub is_stalled : ConflictRelation → List Course → Moment → Bool
is_stalled table courses m =
    nat_eq (length m.out) 0 && list_all (λ i. is_exhausted courses m i || is_blocked table courses m i) (active m.events)

-- the victim of a stall: the greatest blocked process that has not begun to complete
abbrev pub victim_of : ConflictRelation → List Course → Moment → Option ℕ
victim_of table courses m =
    if is_stalled table courses m
    then greatest (filter (λ i. is_blocked table courses m i && not (has_begun m i)) (active m.events))
    else None

-- e is pending
abbrev pub is_pending : List Course → Moment → Entry → Bool
is_pending courses m e = is_active m.events e.process && list_any (same_step e) (pending_of courses m e.process)

-- all pending entries in joint order
abbrev pub pending_in_order : List Course → Moment → List Entry
pending_in_order courses m = filter (is_pending courses m) (net m.events)

-- the process whose undo comes next in a restart: that of the last pending entry
abbrev pub undo_next : List Course → Moment → Option ℕ
undo_next courses m = last_of (map (λ e. e.process) (pending_in_order courses m))
