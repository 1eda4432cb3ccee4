-- The pieces that a session has at hand.
use Rattle.std.specs.Prelude.{ℕ, suc, List, [], ◌∷◌, map, nat_eq, Option, Some, None, if◌then◌else◌}
use Rattle.std.specs.Option.{option_map}
use Rattle.process_tree.specs.Order.{Each}
use Rattle.machine_model.specs.Replies.{Handed}
use Rattle.process_core.specs.Cores.{CoreState, IsHandedBy}
use Rattle.process_core.specs.declared.replies.Admit.{Admit}
use Rattle.process_core.specs.declared.replies.Admit.TheVariants as admits
use Rattle.process_core.specs.declared.replies.Next.{Next}
use Rattle.process_core.specs.declared.replies.Next.TheVariants as nexts
use Rattle.process_engine.specs.declared.replies.Queue.{Queue}
use Rattle.process_engine.specs.declared.replies.Queue.TheVariants as queues
use Rattle.session_play.specs.Playing.{SessionState}

abbrev pub number_of : Handed → ℕ
number_of h = h.piece.number

-- each was handed out by this core
abbrev pub AreHandedBy : CoreState → List Handed → Type 0
AreHandedBy core pieces = Each (λ (h : Handed). IsHandedBy core h.piece) pieces

-- the session of this core in which these pieces are unfinished, and these are queued
abbrev pub session_of : CoreState → List Handed → List Handed → SessionState
session_of core pieces queued = record { core = core; unfinished = map number_of pieces; group = map number_of queued }

-- the piece of a reply to a request for one of a process, if it has one
abbrev pub admitted_pieces : Admit → List Handed
admitted_pieces (admits.Piece d) = d ∷ []
admitted_pieces (admits.Blocked b) = []
admitted_pieces admits.Running = []
admitted_pieces admits.Unknown = []
admitted_pieces admits.Ended = []
admitted_pieces (admits.Exhausted b) = []

-- the same of a reply to a request for any
abbrev pub chosen_pieces : Next → List Handed
chosen_pieces (nexts.Piece d) = d ∷ []
chosen_pieces (nexts.Wait w) = []
chosen_pieces nexts.AllEnded = []
chosen_pieces (nexts.Stuck i) = []

-- the piece of a reply to the queueing of one for which the group is full
abbrev pub full_of : Queue → Option Handed
full_of (queues.Full d) = Some d
full_of queues.Queued = None
full_of (queues.Retry k) = None
full_of queues.Failed = None
full_of queues.Over = None
full_of (queues.Dropped k) = None
full_of queues.Exhausted = None
full_of (queues.NoMemory d) = None
full_of (queues.Closed n) = None

-- the place of n among these numbers, counted from 0
abbrev pub place_in : ℕ → List ℕ → Option ℕ
place_in n [] = None
place_in n (k ∷ ks) = if nat_eq k n then Some 0 else option_map suc (place_in n ks)
