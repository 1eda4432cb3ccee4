-- Forgetting changes no reply: each is that of before, by the numbers since.
use Rattle.std.specs.Prelude.{◌≡◌, ℕ, ◌+◌, ◌-◌, ◌≤◌, List, filter, length, map, nat_le, nat_lt, IsTrue, None}
use Rattle.std.specs.Option.{option_map}
use Rattle.process_tree.specs.declared.play.Outcome.{Outcome}
use Rattle.process_tree.specs.declared.plan.Plan.{Plan}
use Rattle.schedule_model.specs.declared.event.Event.{Event}
use Rattle.schedule_model.specs.Course.{Course}
use Rattle.schedule_model.specs.Conflict.{ConflictRelation}
use Rattle.schedule_model.specs.Histories.{active, starts}
use Rattle.schedule_model.specs.Legal.{is_legal}
use Rattle.machine_model.specs.Advance.{Machine, advance_all}
use Rattle.machine_model.specs.Groups.{Ended, GroupEnd, Taken, Targets, dropped_at_event, effected as event_at, flush_reply}
use Rattle.machine_model.specs.Groups.{queue_reply}
use Rattle.machine_model.specs.Laws.{IsSession}
use Rattle.machine_model.specs.Moment.{Moment}
use Rattle.machine_model.specs.Replies.{Admit, BlockedProcess, Finish, Handed, Next, abort_reply, admit_reply, all_ended}
use Rattle.machine_model.specs.Replies.{all_victims, blocked, chosen}
use Rattle.machine_model.specs.Replies.{dropped, effected, ended, exhausted, finish_reply, next_reply, no_piece, no_refusal, over}
use Rattle.machine_model.specs.Replies.{piece, refused, running, stuck, unknown, wait}
use Rattle.machine_model.specs.Runs.{now, start_refusal}
use Rattle.forgetting_model.specs.Moments.{IsLeftOf, renumbered_block, renumbered_kept, renumbered_piece}
use Rattle.forgetting_model.specs.Remaining.{courses_left, number_in, number_since, remaining}

-- a piece that is handed out, whose process has another number
abbrev pub renumbered_handed : (ℕ → ℕ) → Handed → Handed
renumbered_handed number d = record { piece = renumbered_piece number d.piece; tried = d.tried; refuse = d.refuse }

-- what a request for a piece of one process answers, by other numbers
abbrev pub renumbered_admit : (ℕ → ℕ) → Admit → Admit
renumbered_admit number (piece d) = piece (renumbered_handed number d)
renumbered_admit number (blocked b) = blocked (renumbered_block number b)
renumbered_admit number running = running
renumbered_admit number unknown = unknown
renumbered_admit number ended = ended
renumbered_admit number (exhausted b) = exhausted b

-- a process that is blocked, by other numbers
abbrev pub renumbered_blocked : (ℕ → ℕ) → BlockedProcess → BlockedProcess
renumbered_blocked number b = record { process = number b.process; block = renumbered_block number b.block }

-- what a request for any piece answers, by other numbers
abbrev pub renumbered_next : (ℕ → ℕ) → Next → Next
renumbered_next number (chosen d) = chosen (renumbered_handed number d)
renumbered_next number (wait b) = wait (option_map (renumbered_blocked number) b)
renumbered_next number all_ended = all_ended
renumbered_next number (stuck i) = stuck (number i)

-- what the end of a piece answers, where so many events were forgotten: each event stands so many places later
abbrev pub later_finish : ℕ → Finish → Finish
later_finish forgotten (effected e) = effected (forgotten + e)
later_finish forgotten (refused r) = refused r
later_finish forgotten over = over
later_finish forgotten (dropped k) = dropped k
later_finish forgotten no_piece = no_piece
later_finish forgotten no_refusal = no_refusal

-- how many events of h are forgotten
abbrev pub forgotten : List Event → ℕ
forgotten h = length h - length (remaining h)

-- A request for a piece of process k answers what it answered of the same process before; so does a request to complete. Whoever
-- has a number since is known on both sides where he is on one.
pub record AnswersAlike (table : ConflictRelation) (plans : List Plan) (s : Machine) (h : List Event) (n : Moment) (k : ℕ) : Type 0 where
  pub admit : admit_reply table s.courses (now table s) (number_in h k)
      ≡ renumbered_admit (number_in h) (admit_reply table (courses_left s.courses h) n k)
  pub abort : abort_reply s.courses (now table s) (number_in h k) ≡ abort_reply (courses_left s.courses h) n k

abbrev pub ForgettingChangesNoAnswer : Type 0
ForgettingChangesNoAnswer = (table : ConflictRelation) (plans : List Plan) (s : Machine) (h : List Event) (n : Moment) (k : ℕ)
    → IsSession table plans s → IsLeftOf h (now table s) n → AnswersAlike table plans s h n k

-- the rotation begins at the same process
pub record ServesAlike (h : List Event) (served served' : ℕ) : Type 0 where
  pub after : (k : ℕ) → 1 ≤ k → nat_lt served (number_in h k) ≡ nat_lt served' k
  pub up_to : (k : ℕ) → 1 ≤ k → nat_le (number_in h k) served ≡ nat_le k served'

-- who was served is, since, as many as go on of those with numbers up to his
abbrev pub served_since : List Event → ℕ → ℕ
served_since h served = length (filter (λ i. nat_le i served) (active h)) + (served - length (starts h))

-- So the rotation goes on.
abbrev pub EachIsServedAlike : Type 0
EachIsServedAlike = (table : ConflictRelation) (courses : List Course) (h : List Event) (served : ℕ) → IsTrue (is_legal table courses h)
    → ServesAlike h served (served_since h served)

-- A request for any piece makes the same victims, and then answers what it answered before.
abbrev pub ForgettingChangesNoRequest : Type 0
ForgettingChangesNoRequest = (table : ConflictRelation) (plans : List Plan) (s : Machine) (h : List Event) (n : Moment) (served served' : ℕ)
    → IsSession table plans s → IsLeftOf h (now table s) n → ServesAlike h served served'
    → let m = now table s in
    let since = courses_left s.courses h in
    let vs = all_victims table s.courses m in
    let vs' = all_victims table since n in
    (vs' ≡ map (renumbered_kept (number_since h)) vs)
    × (next_reply table s.courses (advance_all table s.courses m vs) served
    ≡ renumbered_next (number_in h) (next_reply table since (advance_all table since n vs') served'))

-- The end of a piece answers what it answered before; its event stands as many places later as there are events forgotten.
abbrev pub ForgettingChangesNoFinish : Type 0
ForgettingChangesNoFinish = (table : ConflictRelation) (plans : List Plan) (s : Machine) (h : List Event) (n : Moment) (x : ℕ)
    (outcome : Outcome) → IsSession table plans s → IsLeftOf h (now table s) n
    → finish_reply table s.courses (now table s) x outcome
    ≡ later_finish (forgotten h) (finish_reply table (courses_left s.courses h) n x outcome)

-- A start that the whole takes is taken by what remains: nothing that limits count is more.
abbrev pub WhatRemainsTakesStarts : Type 0
WhatRemainsTakesStarts = (table : ConflictRelation) (plans : List Plan) (s : Machine) (h : List Event) (n : Moment) (c : Course)
    → IsSession table plans s → IsLeftOf h (now table s) n
    → start_refusal s.courses (now table s) c ≡ None → start_refusal (courses_left s.courses h) n c ≡ None

-- what became of a piece of a group, where so many events were forgotten
abbrev pub later_ending : ℕ → GroupEnd → GroupEnd
later_ending forgotten (event_at e) = event_at (forgotten + e)
later_ending forgotten (dropped_at_event k) = dropped_at_event k

-- a piece of a group with what became of it
abbrev pub later_end : ℕ → Ended → Ended
later_end forgotten e = record { piece = e.piece; ending = later_ending forgotten e.ending }

-- Queueing a piece answers what it answered before.
abbrev pub ForgettingChangesNoQueue : Type 0
ForgettingChangesNoQueue = (table : ConflictRelation) (plans : List Plan) (s : Machine) (h : List Event) (n : Moment) (targets : Targets)
    (group : List ℕ) (x : ℕ) (taken : Taken) → IsSession table plans s → IsLeftOf h (now table s) n
    → queue_reply table targets s.courses (now table s) group x taken
    ≡ queue_reply table targets (courses_left s.courses h) n group x taken

-- So does a flush; each event stands as many places later as there are events forgotten.
abbrev pub ForgettingChangesNoFlush : Type 0
ForgettingChangesNoFlush = (table : ConflictRelation) (plans : List Plan) (s : Machine) (h : List Event) (n : Moment) (group : List ℕ)
    → IsSession table plans s → IsLeftOf h (now table s) n
    → flush_reply (now table s) (length (now table s).events) group
    ≡ map (later_end (forgotten h)) (flush_reply n (length n.events) group)
