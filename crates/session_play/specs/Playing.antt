-- What each line of a session makes of the machine, and what is printed of it.
use Rattle.std.specs.Prelude.{ℕ, ◌+◌, Bool, false, true, List, [], ◌∷◌, ◌++◌, filter, find, length, map, nat_eq, Option, Some, None}
use Rattle.std.specs.Prelude.{if◌then◌else◌}
use Rattle.std.specs.List.{filter_map}
use Rattle.process_tree.specs.Blocks.{numbers_from}
use Rattle.process_tree.specs.Making.{same_text}
use Rattle.process_tree.specs.declared.plan.Plan.{Plan}
use Rattle.process_tree.specs.declared.play.Outcome.{Outcome}
use Rattle.process_tree.specs.declared.play.Outcome.TheVariants.{Done, Refused}
use Rattle.process_text.specs.Canonical.{line_of}
use Rattle.schedule_model.specs.Histories.{is_in, starts}
use Rattle.commute_table.specs.declared.catalog.Catalog.{Catalog}
use Rattle.machine_model.specs.declared.began.Began.{Began}
use Rattle.machine_model.specs.declared.kept.Kept.{Kept}
use Rattle.machine_model.specs.declared.kept.Kept.TheVariants.{Start as HasStarted, Hand, Effect, Refuse, Abort as WasAborted}
use Rattle.machine_model.specs.declared.kept.Kept.TheVariants.{Victim, Restart}
use Rattle.machine_model.specs.declared.kept.Work.TheVariants.{End}
use Rattle.machine_model.specs.declared.replies.StartWhy.{StartWhy}
use Rattle.machine_model.specs.Advance.{advance_all}
use Rattle.machine_model.specs.Calls.{Call, admit, next, finish, abort}
use Rattle.machine_model.specs.Moment.{Piece}
use Rattle.machine_model.specs.Groups as groups
use Rattle.machine_model.specs.Groups.{Queue as QueueReply, flush_reply, queue_adds}
use Rattle.machine_model.specs.Pieces.{hands, piece_of, runs}
use Rattle.machine_model.specs.Progress.{same_work}
use Rattle.machine_model.specs.Replies.{Next as NextReply, next_reply}
use Rattle.process_core.specs.Answers.{after_call, after_start, answer_in}
use Rattle.process_core.specs.Cores.{CoreState, began_in, courses_in, history_of, moment_of, relation}
use Rattle.process_core.specs.Moments.{abort_reply_in, finish_reply_in, refusal_in, reply_in, victims_in}
use Rattle.process_engine.specs.Finishing.{outcome_of}
use Rattle.process_engine.specs.declared.gates.Answer.{Answer}
use Rattle.process_engine.specs.declared.gates.Answer.TheVariants as answers
use Rattle.engine_steps.specs.Targets.{targets_of}
use Rattle.process_engine.specs.Pieces.{after_effects}
use Rattle.process_engine.specs.Queueing.{queue_reply_in, taken_by}
use Rattle.engine_calls.specs.GateAnswers.{is_barred_in}
use Rattle.process_report.specs.Lines.{Line as Words, text_of}
use Rattle.session_text.specs.declared.line.Line.{Line}
use Rattle.session_text.specs.declared.line.Line.TheVariants.{Start, Admit, Next, Finish, Queue, Flush, Abort, Show, Stop}
use Rattle.session_text.specs.Answers.{started_words, no_process_words, not_started_words, admit_words, next_lines, finish_words}
use Rattle.session_text.specs.Answers.{no_piece_words, no_refusal_words, abort_words, group_open_words, queue_words, flush_lines}
use Rattle.scenario_run.specs.Reports.{report_in}

-- A session between two lines: the machine, the numbers of the pieces that a line may still finish or queue, and those of the
-- pieces that are queued, in order.
pub record SessionState : Type 0 where
  pub core : CoreState
  pub unfinished : List ℕ
  pub group : List ℕ

-- What a line leads to, and the text that is printed of it.
pub record Played : Type 0 where
  pub state : SessionState
  pub printed : List ℕ

-- nothing changes, and this line is printed
abbrev pub stays : SessionState → Words → Played
stays s words = record { state = s; printed = line_of words }

-- the machine goes on with a call that is no start, and a piece that it hands out may be finished
abbrev pub called : SessionState → Call → SessionState
called s call = record {
  core = after_call s.core call;
  unfinished = s.unfinished ++ map (λ (p : Piece). p.number) (hands (answer_in s.core call).kept);
  group = s.group;
}

-- the plan of the process of this name
abbrev pub plan_named : List Plan → List ℕ → Option Plan
plan_named plans name = find (λ (p : Plan). same_text p.name name) plans

-- a process of this plan and name starts, unless the machine refuses it
abbrev pub start_unless : SessionState → List ℕ → Plan → Option StartWhy → Played
start_unless s name p None = record {
  state = record { core = after_start s.core p; unfinished = s.unfinished; group = s.group };
  printed = line_of (started_words (length (starts (history_of s.core)) + 1) name);
}
start_unless s name p (Some why) = stays s (not_started_words why)

-- `start NAME`, where the scenario has this plan of that name, or none
abbrev pub play_start : SessionState → List ℕ → Option Plan → Played
play_start s name None = stays s (no_process_words name)
play_start s name (Some p) = start_unless s name p (refusal_in s.core p)

-- `admit I`
abbrev pub play_admit : SessionState → ℕ → Played
play_admit s i = record {
  state = called s (admit i);
  printed = line_of (admit_words s.core.plans i (reply_in s.core i));
}

-- the process, if the kept event is that it was chosen as a victim
abbrev pub victim_of : Kept → Option ℕ
victim_of (Victim i) = Some i
victim_of (HasStarted i) = None
victim_of (Hand piece process step work) = None
victim_of (Effect n) = None
victim_of (Refuse n) = None
victim_of (WasAborted i) = None
victim_of Restart = None

-- what the machine replies to a request for any piece, once it made its victims
abbrev pub reply_to_next : CoreState → NextReply
reply_to_next core =
    next_reply (relation core) (courses_in core) (advance_all (relation core) (courses_in core) (moment_of core) (victims_in core))
    core.served

-- `next`
abbrev pub play_next : SessionState → Played
play_next s = record {
  state = called s next;
  printed = text_of (next_lines s.core.plans (filter_map victim_of (answer_in s.core next).kept) (reply_to_next s.core));
}

-- what a line says of the work of a piece
abbrev pub answer_of : Outcome → Answer
answer_of Done = answers.Done
answer_of Refused = answers.Refused

-- these numbers without n, which stands among them once at most
abbrev pub without : ℕ → List ℕ → List ℕ
without n [] = []
without n (k ∷ ks) = if nat_eq k n then ks else k ∷ without n ks

-- a piece that is unfinished is finished; one whose work is done is refused all the same where the values bar it
abbrev pub finish_as : SessionState → Piece → Outcome → Played
finish_as s p outcome = record {
  state = record {
    core = after_call s.core (finish p.number outcome);
    unfinished = without p.number s.unfinished;
    group = s.group;
  };
  printed = line_of (finish_words s.core.plans p (finish_reply_in s.core p.number outcome));
}

-- it is an end, and told to be refused
abbrev pub is_refused_end : Piece → Outcome → Bool
is_refused_end p Done = false
is_refused_end p Refused = same_work p.work End

-- something is queued
abbrev pub is_open : List ℕ → Bool
is_open [] = false
is_open (n ∷ ns) = true

-- the same of piece n, if it is unfinished; but not while something is queued, and an end is not refused
abbrev pub finish_piece : Catalog → SessionState → ℕ → Outcome → Option Piece → Played
finish_piece c s n outcome None = stays s (no_piece_words n)
finish_piece c s n outcome (Some p) =
    if is_open s.group then stays s group_open_words
    else if is_refused_end p outcome then stays s (no_refusal_words p.number)
    else finish_as s p (outcome_of (answer_of outcome) (is_barred_in c s.core p))

-- piece n, if it is unfinished
abbrev pub unfinished_piece : SessionState → ℕ → Option Piece
unfinished_piece s n = if is_in n s.unfinished then piece_of s.core.kept n else None

-- `finish N done` or `finish N refused`
abbrev pub play_finish : Catalog → SessionState → ℕ → Outcome → Played
play_finish c s n outcome = finish_piece c s n outcome (unfinished_piece s n)

-- the machine after this answer to the queueing of piece n: where it was refused, that is kept
abbrev pub core_after : CoreState → ℕ → QueueReply → CoreState
core_after core n (groups.refused r) = after_call core (finish n Refused)
core_after core n groups.queued = core
core_after core n groups.full = core
core_after core n groups.over = core
core_after core n (groups.dropped k) = core
core_after core n groups.no_piece = core
core_after core n groups.no_refusal = core

-- the unfinished pieces then: one for which the group is full is the last of them, and any other is none of them any more
abbrev pub unfinished_after : List ℕ → ℕ → QueueReply → List ℕ
unfinished_after ns n groups.full = without n ns ++ n ∷ []
unfinished_after ns n groups.queued = without n ns
unfinished_after ns n (groups.refused r) = without n ns
unfinished_after ns n groups.over = without n ns
unfinished_after ns n (groups.dropped k) = without n ns
unfinished_after ns n groups.no_piece = without n ns
unfinished_after ns n groups.no_refusal = without n ns

-- a piece that is unfinished is queued, with this reply
abbrev pub queue_with : SessionState → Piece → QueueReply → Played
queue_with s p reply = record {
  state = record {
    core = core_after s.core p.number reply;
    unfinished = unfinished_after s.unfinished p.number reply;
    group = s.group ++ queue_adds p.number reply;
  };
  printed = line_of (queue_words s.core.plans p reply);
}

-- the machine's reply to the queueing of a piece whose work came to this
abbrev pub reply_to_queue : Catalog → SessionState → Piece → Answer → QueueReply
reply_to_queue c s p answer =
    queue_reply_in s.core (targets_of c.ops) s.group p.number (taken_by answer (is_barred_in c s.core p))

-- piece n, if it is unfinished, is queued; but an end is not refused
abbrev pub queue_piece : Catalog → SessionState → ℕ → Outcome → Option Piece → Played
queue_piece c s n outcome None = stays s (no_piece_words n)
queue_piece c s n outcome (Some p) =
    if is_refused_end p outcome then stays s (no_refusal_words p.number)
    else queue_with s p (reply_to_queue c s p (answer_of outcome))

-- `queue N done` or `queue N refused`
abbrev pub play_queue : Catalog → SessionState → ℕ → Outcome → Played
play_queue c s n outcome = queue_piece c s n outcome (unfinished_piece s n)

-- `flush`: the queued pieces that run take effect
abbrev pub play_flush : SessionState → Played
play_flush s = record {
  state = record {
    core = after_effects s.core (filter (runs (moment_of s.core)) s.group);
    unfinished = s.unfinished;
    group = [];
  };
  printed = text_of (flush_lines (flush_reply (moment_of s.core) (length (history_of s.core)) s.group));
}

-- it began at this kept event
abbrev pub is_at : ℕ → Option Began → Bool
is_at event None = false
is_at event (Some began) = nat_eq began.event event

-- the processes that began to complete at the last kept event, ascending
abbrev pub just_began : CoreState → List ℕ
just_began core = filter (λ i. is_at (length core.kept) (began_in core i)) (numbers_from 1 (length core.plans))

-- `abort I`
abbrev pub play_abort : SessionState → ℕ → Played
play_abort s i = record {
  state = called s (abort i);
  printed = line_of (abort_words i (just_began (after_call s.core (abort i))) (abort_reply_in s.core i));
}

-- `show`: the report of this moment, with the causes of this session
abbrev pub play_show : Catalog → SessionState → Played
play_show c s = record { state = s; printed = report_in c s.core }

-- A line, under this catalog, where the scenario has this plan of the name that it starts.
abbrev pub play : Catalog → SessionState → Line → Option Plan → Played
play c s (Start name) plan = play_start s name plan
play c s (Admit i) plan = play_admit s i
play c s Next plan = play_next s
play c s (Finish n outcome) plan = play_finish c s n outcome
play c s (Queue n outcome) plan = play_queue c s n outcome
play c s Flush plan = play_flush s
play c s (Abort i) plan = play_abort s i
play c s Show plan = play_show c s
play c s Stop plan = record { state = s; printed = [] }

-- the plan that a line takes of these
abbrev pub plan_for : List Plan → Line → Option Plan
plan_for plans (Start name) = plan_named plans name
plan_for plans (Admit i) = None
plan_for plans Next = None
plan_for plans (Finish n outcome) = None
plan_for plans (Queue n outcome) = None
plan_for plans Flush = None
plan_for plans (Abort i) = None
plan_for plans Show = None
plan_for plans Stop = None
