-- The line that a session prints for each answer, as its words.
use Rattle.std.specs.Prelude.{ℕ, List, [], ◌∷◌, ◌++◌, map, Option, Some, None, codes, decimal}
use Rattle.process_tree.specs.declared.plan.Plan.{Plan}
use Rattle.machine_model.specs.declared.kept.Work.{Work}
use Rattle.machine_model.specs.declared.kept.Work.TheVariants.{Forward, Undo, End}
use Rattle.machine_model.specs.declared.replies.Aborted.{Aborted}
use Rattle.machine_model.specs.declared.replies.Aborted.TheVariants as aborts
use Rattle.machine_model.specs.declared.replies.Refusal.{Refusal}
use Rattle.machine_model.specs.declared.replies.Refusal.TheVariants as refusals
use Rattle.machine_model.specs.declared.replies.StartWhy.{StartWhy}
use Rattle.machine_model.specs.declared.replies.StartWhy.TheVariants.{TooMany, NoRoom, NoMemory}
use Rattle.machine_model.specs.Moment.{Piece}
use Rattle.machine_model.specs.Replies.{Admit, piece, blocked, running, unknown, ended, exhausted, Next, chosen, wait, all_ended}
use Rattle.machine_model.specs.Replies.{stuck, BlockedProcess, Finish, effected, refused, over, dropped, no_piece, no_refusal}
use Rattle.machine_model.specs.Groups as groups
use Rattle.machine_model.specs.Groups.{Ended, GroupEnd, Queue}
use Rattle.process_report.specs.Lines.{Line, place_word}
use Rattle.process_report.specs.Names.{step_name}
use Rattle.process_report.specs.Blocks.{block_words}

-- a word and a number
abbrev pub numbered : List ℕ → ℕ → Line
numbered word n = word ∷ decimal n ∷ []

-- what is worked on: `do I.STEP`, `undo I.STEP` or `end I`
abbrev pub work_words : List Plan → ℕ → ℕ → Work → Line
work_words plans i b Forward = codes "do" ∷ place_word plans i b ∷ []
work_words plans i b Undo = codes "undo" ∷ place_word plans i b ∷ []
work_words plans i b End = numbered (codes "end") i

-- `piece N: ` and what is worked on
abbrev pub piece_words : List Plan → Piece → Line
piece_words plans p = codes "piece" ∷ (decimal p.number ++ codes ":") ∷ work_words plans p.process p.step p.work

-- `exhausted I STEP`
abbrev pub exhausted_words : List Plan → ℕ → ℕ → Line
exhausted_words plans i b = codes "exhausted" ∷ decimal i ∷ step_name plans i b ∷ []

-- the answer to `start NAME`, where a process started: `started I NAME`
abbrev pub started_words : ℕ → List ℕ → Line
started_words i name = codes "started" ∷ decimal i ∷ name ∷ []

-- where the scenario has no such process: `no process NAME`
abbrev pub no_process_words : List ℕ → Line
no_process_words name = codes "no" ∷ codes "process" ∷ name ∷ []

-- where it could not start
abbrev pub not_started_words : StartWhy → Line
not_started_words (TooMany n) = codes "too" ∷ numbered (codes "many") n
not_started_words (NoRoom n) = codes "no" ∷ numbered (codes "room") n
not_started_words NoMemory = codes "no" ∷ codes "memory" ∷ []

-- the answer to `admit I`
abbrev pub admit_words : List Plan → ℕ → Admit → Line
admit_words plans i (piece d) = piece_words plans d.piece
admit_words plans i (blocked b) = codes "blocked" ∷ block_words plans i b
admit_words plans i running = numbered (codes "running") i
admit_words plans i unknown = numbered (codes "unknown") i
admit_words plans i ended = numbered (codes "ended") i
admit_words plans i (exhausted b) = exhausted_words plans i b

-- `wait`
abbrev pub waiting_words : Line
waiting_words = codes "wait" ∷ []

-- what is waited for, if something is blocked
abbrev pub wait_words : List Plan → Option BlockedProcess → Line
wait_words plans None = waiting_words
wait_words plans (Some w) = codes "wait" ∷ block_words plans w.process w.block

-- `all ended`
abbrev pub all_ended_words : Line
all_ended_words = codes "all" ∷ codes "ended" ∷ []

-- the answer to `next`, behind the victims
abbrev pub next_words : List Plan → Next → Line
next_words plans (chosen d) = piece_words plans d.piece
next_words plans (wait w) = wait_words plans w
next_words plans all_ended = all_ended_words
next_words plans (stuck i) = numbered (codes "stuck") i

-- the lines of `next`: `victim I` for each victim, and then its answer
abbrev pub next_lines : List Plan → List ℕ → Next → List Line
next_lines plans victims reply = map (numbered (codes "victim")) victims ++ next_words plans reply ∷ []

-- what became of a piece of step b of process i that was refused
abbrev pub refusal_words : List Plan → ℕ → ℕ → Refusal → Line
refusal_words plans i b (refusals.Retry t) = numbered (codes "retry") t
refusal_words plans i b refusals.Alternative = codes "failed" ∷ []
refusal_words plans i b refusals.RollBack = codes "failed" ∷ []
refusal_words plans i b refusals.Exhausted = exhausted_words plans i b

-- `no piece N`: no piece of this number is unfinished
abbrev pub no_piece_words : ℕ → Line
no_piece_words n = codes "no" ∷ numbered (codes "piece") n

-- `end is not refused N`: piece N is an end
abbrev pub no_refusal_words : ℕ → Line
no_refusal_words n = codes "end" ∷ codes "is" ∷ codes "not" ∷ numbered (codes "refused") n

-- the answer to the end of piece p
abbrev pub finish_words : List Plan → Piece → Finish → Line
finish_words plans p (effected e) = numbered (codes "effected") e
finish_words plans p (refused r) = refusal_words plans p.process p.step r
finish_words plans p over = no_piece_words p.number
finish_words plans p (dropped k) = numbered (codes "dropped") k
finish_words plans p no_piece = no_piece_words p.number
finish_words plans p no_refusal = no_refusal_words p.number

-- `group open`: something is queued
abbrev pub group_open_words : Line
group_open_words = codes "group" ∷ codes "open" ∷ []

-- the answer to the queueing of piece p
abbrev pub queue_words : List Plan → Piece → Queue → Line
queue_words plans p groups.queued = numbered (codes "queued") p.number
queue_words plans p groups.full = numbered (codes "full") p.number
queue_words plans p (groups.refused r) = refusal_words plans p.process p.step r
queue_words plans p groups.over = no_piece_words p.number
queue_words plans p (groups.dropped k) = numbered (codes "dropped") k
queue_words plans p groups.no_piece = no_piece_words p.number
queue_words plans p groups.no_refusal = no_refusal_words p.number

-- what became of a piece of a group: `effected E`, or `dropped E`
abbrev pub ending_words : GroupEnd → Line
ending_words (groups.effected n) = numbered (codes "effected") n
ending_words (groups.dropped_at_event k) = numbered (codes "dropped") k

-- `nothing queued`
abbrev pub nothing_queued_words : Line
nothing_queued_words = codes "nothing" ∷ codes "queued" ∷ []

-- the lines of `flush`: what became of each piece, in the order in which they were queued
abbrev pub flush_lines : List Ended → List Line
flush_lines [] = nothing_queued_words ∷ []
flush_lines (e ∷ es) = map (λ e. ending_words e.ending) (e ∷ es)

-- the answer to `abort I`, where these processes began to complete
abbrev pub abort_words : ℕ → List ℕ → Aborted → Line
abort_words i began aborts.Ok = codes "aborting" ∷ map decimal began
abort_words i began aborts.Unknown = numbered (codes "unknown") i
abort_words i began aborts.Ended = numbered (codes "ended") i
abort_words i began aborts.Exhausted = numbered (codes "exhausted") i
abort_words i began aborts.Already = numbered (codes "already") i
