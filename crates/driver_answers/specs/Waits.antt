-- How each active process stands: what its next piece waits for, or that it is out, and since when the process hasn't moved.
use Rattle.std.specs.Prelude.{ℕ, ◌+◌, List, [], ◌∷◌, Bool, true, false, flat_map, length, nat_eq, if◌then◌else◌, Option, Some, None, codes, decimal}
use Rattle.process_tree.specs.Blocks.{numbers_from}
use Rattle.process_tree.specs.declared.plan.Plan.{Plan}
use Rattle.process_text.specs.Canonical.{line_of}
use Rattle.schedule_model.specs.declared.event.Event.{Event}
use Rattle.schedule_model.specs.declared.event.Event.TheVariants.{Start, Act, End}
use Rattle.machine_model.specs.Replies.{Admit, piece, blocked, running, unknown, ended, exhausted}
use Rattle.process_core.specs.Cores.{CoreState}
use Rattle.process_core.specs.Moments.{reply_in, seat_in}
use Rattle.process_report.specs.Blocks.{block_text, joined}
use Rattle.process_report.specs.Lines.{Line}
use Rattle.process_report.specs.Names.{process_name, step_name}
use Rattle.engine_steps.specs.Engines.{full_history}

-- the event is of process i
abbrev pub is_event_of : ℕ → Event → Bool
is_event_of i (Start k) = nat_eq k i
is_event_of i (Act e) = nat_eq e.process i
is_event_of i (End k) = nat_eq k i

-- the last of these events that is of process i, where the first stands at this place; else what is known from before
abbrev pub last_from : ℕ → ℕ → ℕ → List Event → ℕ
last_from i known place [] = known
last_from i known place (e ∷ es) = last_from i (if is_event_of i e then place else known) (place + 1) es

-- the place of the last event of process i: events count from 1, and it is 0 where there is none
abbrev pub last_event : ℕ → List Event → ℕ
last_event i events = last_from i 0 1 events

-- that its piece of this number is out
abbrev pub out_words : Option ℕ → Line
out_words None = codes "running" ∷ []
out_words (Some n) = codes "running" ∷ decimal n ∷ []

-- how a process stands, by what a request for its piece would answer and by its piece that is out
abbrev pub standing_words : List Plan → ℕ → Option ℕ → Admit → Line
standing_words plans i out (piece d) = codes "free" ∷ []
standing_words plans i out (blocked b) = codes "blocked" ∷ block_text plans i b ∷ []
standing_words plans i out running = out_words out
standing_words plans i out unknown = codes "unknown" ∷ []
standing_words plans i out ended = codes "ended" ∷ []
standing_words plans i out (exhausted b) = codes "exhausted" ∷ step_name plans i b ∷ []

-- `I NAME free since E`, `I NAME blocked on J.STEP by I.STEP rule R since E`, `I NAME running N since E` or
-- `I NAME exhausted STEP since E`
abbrev pub waits_words : CoreState → ℕ → Line
waits_words c i =
    decimal i ∷ process_name c.plans i ∷ joined (standing_words c.plans i (seat_in c i).out (reply_in c i))
    ∷ codes "since" ∷ decimal (last_event i (full_history c).events) ∷ []

-- so answers a process that isn't active
abbrev pub is_over : Admit → Bool
is_over ended = true
is_over unknown = true
is_over (piece d) = false
is_over (blocked b) = false
is_over running = false
is_over (exhausted b) = false

-- the line of process i, if it is active
abbrev pub line_if_active : CoreState → ℕ → List ℕ
line_if_active c i = if is_over (reply_in c i) then [] else line_of (waits_words c i)

-- those of all active processes, in the order of their starts
abbrev pub waits : CoreState → List ℕ
waits c = flat_map (line_if_active c) (numbers_from 1 (length c.plans))
