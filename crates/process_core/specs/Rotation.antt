-- Rotation: looking for the first process of which something is told.
use Rattle.std.specs.Prelude.{ℕ, Bool, false, not, List, [], ◌∷◌, Option, Some, None}
use Rattle.std.specs.Option.{option_map, option_or}
use Rattle.machine_model.specs.Replies.{Handed, Admit, piece, blocked, running, unknown, ended, exhausted, BlockedProcess}
use Rattle.machine_model.specs.Replies.{Next as NextReply, chosen, wait, all_ended, stuck}
use Rattle.process_core.specs.declared.replies.Next.{Next}
use Rattle.process_core.specs.declared.replies.Next.TheVariants.{Piece as IsPiece, Wait, AllEnded, Stuck}
use Rattle.process_core.specs.declared.replies.Found.{Found}
use Rattle.process_core.specs.declared.replies.Found.TheVariants.{Piece as FoundPiece, Waiting as FoundWaiting}
use Rattle.process_core.specs.declared.replies.Waiting.{Waiting}

-- what f tells of the first of these of which it tells something
abbrev pub first_told : {X : Type 0} → (ℕ → Option X) → List ℕ → Option X
first_told f [] = None
first_told f (i ∷ is) = option_or (f i) (first_told f is)

-- the piece of a reply, if it has one
abbrev pub piece_in : Admit → Option Handed
piece_in (piece d) = Some d
piece_in (blocked b) = None
piece_in running = None
piece_in unknown = None
piece_in ended = None
piece_in (exhausted b) = None

-- process i with its block, if the reply is that it is blocked
abbrev pub waiting_in : ℕ → Admit → Option Waiting
waiting_in i (blocked b) = Some (record { process = i; block = b })
waiting_in i (piece d) = None
waiting_in i running = None
waiting_in i unknown = None
waiting_in i ended = None
waiting_in i (exhausted b) = None

-- a blocked process, as the machine has it
abbrev pub waiting_of : Waiting → BlockedProcess
waiting_of w = record { process = w.process; block = w.block }

-- the piece that was found, if one was
abbrev pub piece_found : Found → Option Handed
piece_found (FoundPiece d) = Some d
piece_found (FoundWaiting w) = None

-- where none was found: P of the first blocked process, if there is one
abbrev pub IfWaiting : Found → (Option Waiting → Type 0) → Type 0
IfWaiting (FoundPiece d) P = Unit
IfWaiting (FoundWaiting w) P = P w

-- what was found, and the process that was blocked before, if one was
abbrev pub found_after : Option Waiting → Found → Found
found_after first (FoundPiece d) = FoundPiece d
found_after first (FoundWaiting w) = FoundWaiting (option_or first w)

-- process i, if the reply is that it is exhausted
abbrev pub exhausted_in : ℕ → Admit → Option ℕ
exhausted_in i (exhausted b) = Some i
exhausted_in i (piece d) = None
exhausted_in i (blocked b) = None
exhausted_in i running = None
exhausted_in i unknown = None
exhausted_in i ended = None

-- by whether a process has begun to complete and by the reply: it is blocked and has not
abbrev pub can_be_victim : Bool → Admit → Bool
can_be_victim begun (blocked b) = not begun
can_be_victim begun (piece d) = false
can_be_victim begun running = false
can_be_victim begun unknown = false
can_be_victim begun ended = false
can_be_victim begun (exhausted b) = false

-- a reply to a request for any piece, as the machine has it
abbrev pub next_reply_of : Next → NextReply
next_reply_of (IsPiece d) = chosen d
next_reply_of (Wait w) = wait (option_map waiting_of w)
next_reply_of AllEnded = all_ended
next_reply_of (Stuck i) = stuck i
