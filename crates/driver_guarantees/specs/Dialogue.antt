-- A driver's dialogue: what it is told that finishes each piece before it asks again, and whom requests serve.
use Rattle.std.specs.Prelude.{◌≡◌, ◌≤◌, ℕ, zero, suc, Bool, true, false, ◌&&◌, ◌||◌, List, [], ◌∷◌, length, nat_eq, IsTrue}
use Rattle.std.specs.Prelude.{if◌then◌else◌}
use Rattle.std.specs.List.{sum_by}
use Rattle.process_tree.specs.Order.{Each}
use Rattle.process_tree.specs.declared.plan.Plan.{Plan}
use Rattle.process_tree.specs.declared.play.Outcome.{Outcome}
use Rattle.process_tree.specs.declared.play.Outcome.TheVariants.{Done}
use Rattle.schedule_model.specs.Conflict.{ConflictRelation}
use Rattle.schedule_model.specs.Histories.{is_active, starts}
use Rattle.machine_model.specs.declared.kept.Work.TheVariants.{End}
use Rattle.machine_model.specs.Advance.{Machine, advance_all}
use Rattle.machine_model.specs.Calls.{Call, start, admit, next, finish, abort, complete_all, IsNoStart, answer, answered}
use Rattle.machine_model.specs.Laws.{IsSession, pieces_for}
use Rattle.machine_model.specs.Moment.{Moment}
use Rattle.machine_model.specs.Progress.{same_work}
use Rattle.machine_model.specs.Replies.{Handed, Next, chosen, wait, all_ended, stuck, all_victims, next_reply}
use Rattle.machine_model.specs.Runs.{history, now}
use Rattle.machine_model.specs.State.{is_free}

-- a driver answers each piece that it is handed, as it likes
abbrev pub Driver : Type 0
Driver = Handed → Outcome

-- but the end of a process, where there is nothing to do, is done
abbrev pub said : Driver → Handed → Outcome
said driver d = if same_work d.piece.work End then Done else driver d

-- the moment at which a request for any piece is answered: after the victims that it makes
abbrev pub at_request : ConflictRelation → Machine → Moment
at_request table s = let m = now table s in advance_all table s.courses m (all_victims table s.courses m)

-- what a request for any piece is told
abbrev pub told : ConflictRelation → Machine → Next
told table s = next_reply table s.courses (at_request table s) s.served

-- the driver finishes the piece that it was handed, if it was handed one
abbrev pub finishing : ConflictRelation → Driver → Machine → Next → Machine
finishing table driver s (chosen d) = answered s (answer table s (finish d.piece.number (said driver d)))
finishing table driver s (wait b) = s
finishing table driver s all_ended = s
finishing table driver s (stuck i) = s

-- a request, and what it handed out finished
abbrev pub after_request : ConflictRelation → Driver → Machine → Machine
after_request table driver s = finishing table driver (answered s (answer table s next)) (told table s)

-- so many of them
abbrev pub after_requests : ℕ → ConflictRelation → Driver → Machine → Machine
after_requests zero table driver s = s
after_requests (suc n) table driver s = after_requests n table driver (after_request table driver s)

-- there is nothing more to be handed out: all have ended, or one is stuck
abbrev pub is_over : Next → Bool
is_over (chosen d) = false
is_over (wait b) = false
is_over all_ended = true
is_over (stuck i) = true

-- A dialogue ends: whatever it answers, a driver that finishes each piece before it asks again is told so behind at most as many
-- requests as the processes can take pieces.
abbrev pub DialoguesEnd : Type 0
DialoguesEnd = (table : ConflictRelation) (plans : List Plan) (s : Machine) (driver : Driver) → IsSession table plans s
    → (now table s).out ≡ []
    → (n : ℕ) × (n ≤ sum_by (pieces_for s.courses) (starts (history table s)))
    × IsTrue (is_over (told table (after_requests n table driver s)))

-- process i is handed a piece
abbrev pub serves : ℕ → Next → Bool
serves i (chosen d) = nat_eq d.piece.process i
serves i (wait b) = false
serves i all_ended = false
serves i (stuck k) = false

-- how many of these calls are requests for any piece
abbrev pub requests : List Call → ℕ
requests [] = 0
requests (next ∷ cs) = suc (requests cs)
requests (start c ∷ cs) = requests cs
requests (admit i ∷ cs) = requests cs
requests (finish n outcome ∷ cs) = requests cs
requests (abort i ∷ cs) = requests cs
requests (complete_all ∷ cs) = requests cs

-- process i is free for this call, if it is a request
abbrev pub is_free_for : ConflictRelation → ℕ → Machine → Call → Bool
is_free_for table i s next = is_free table s.courses (at_request table s) i
is_free_for table i s (start c) = true
is_free_for table i s (admit k) = true
is_free_for table i s (finish n outcome) = true
is_free_for table i s (abort k) = true
is_free_for table i s complete_all = true

-- this call is a request, and serves process i
abbrev pub is_served_by : ConflictRelation → ℕ → Machine → Call → Bool
is_served_by table i s next = serves i (told table s)
is_served_by table i s (start c) = false
is_served_by table i s (admit k) = false
is_served_by table i s (finish n outcome) = false
is_served_by table i s (abort k) = false
is_served_by table i s complete_all = false

-- process i is free at each request of these calls, made one after another
abbrev pub is_free_at_each : ConflictRelation → ℕ → Machine → List Call → Bool
is_free_at_each table i s [] = true
is_free_at_each table i s (c ∷ cs) = is_free_for table i s c && is_free_at_each table i (answered s (answer table s c)) cs

-- one of the requests serves it
abbrev pub is_served : ConflictRelation → ℕ → Machine → List Call → Bool
is_served table i s [] = false
is_served table i s (c ∷ cs) = is_served_by table i s c || is_served table i (answered s (answer table s c)) cs

-- Nobody is passed over: who is free at each of as many requests as there are processes is served by one of them, whatever else
-- is called between them.
abbrev pub NobodyIsPassedOver : Type 0
NobodyIsPassedOver = (table : ConflictRelation) (plans : List Plan) (s : Machine) (i : ℕ) (cs : List Call)
    → IsSession table plans s
    → IsTrue (is_active (history table s) i) → Each IsNoStart cs → length (starts (history table s)) ≤ requests cs
    → IsTrue (is_free_at_each table i s cs) → IsTrue (is_served table i s cs)
